-- What was read of the first field is what is written of it. Assumes nothing.
use Rattle.std.proofs.Common.{◌≡◌, ℕ, ◌^◌, ◌<◌, ◌≤◌, true, ◌&&◌, eqb, List, [], ◌∷◌, length, get_or, Some, None, Ok, decimal, Option, sym, refl, ap, ◌∙◌, arith}
use Rattle.std.proofs.lemmas.Bool.{and_parts, eqb-true}
use Rattle.std.proofs.lemmas.Option.{cond_some}
use Rattle.fault.specs.declared.Fault.{Fault}
use Rattle.text.specs.Classes.{is_letter}
use Rattle.text.specs.Fields.{letter_in, dash_in}
use Rattle.text.specs.Numbers.{number_in}
use Rattle.text.specs.Places.{letter_at, field_at}
use Rattle.text.specs.Reading.{tail_of, or_refused, read_letter, read_number, read_end}
use Rattle.text.proofs.Decimals.{number_read_is_decimal, decimal_is_read}
use Rattle.text.proofs.Forms.{alone}

not_refused : {A : Type 0} (f : Fault) (o : Option A) (v : A) → or_refused f o ≡ Ok v → o ≡ Some v
not_refused f None v e = absurd cc
not_refused f (Some x) v e = cc

letter_some : (f : List ℕ) (c : ℕ) → letter_in f ≡ Some c → f ≡ c ∷ []
letter_some f c e =
    let t = cond_some (eqb (length f) 1 && is_letter (get_or f 0 0)) (get_or f 0 0) c e in
    let a = and_parts (eqb (length f) 1) (is_letter (get_or f 0 0)) t.0 in
    sym (alone f (eqb-true (length f) 1 a.0)) ∙ ap (λ b. b ∷ []) t.1

pub letter_read_is_first : (n : ℕ) (fs : List (List ℕ)) (c : ℕ) → read_letter n fs ≡ Ok c → fs ≡ (c ∷ []) ∷ tail_of fs
letter_read_is_first n [] c e = absurd cc
letter_read_is_first n (f ∷ fs) c e =
    ap (λ g. g ∷ fs) (letter_some f c (not_refused (letter_at n) (letter_in f) c e))

pub dash_is_its_byte : (f : List ℕ) → dash_in f ≡ true → f ≡ 45 ∷ []
dash_is_its_byte f e =
    let a = and_parts (eqb (length f) 1) (eqb (get_or f 0 0) 45) e in
    sym (alone f (eqb-true (length f) 1 a.0)) ∙ ap (λ b. b ∷ []) (eqb-true (get_or f 0 0) 45 a.1)

pub number_read_is_first : (n k low high : ℕ) (fs : List (List ℕ)) (v : ℕ) → high < 2 ^ 64 → read_number n k low high fs ≡ Ok v → (fs ≡ decimal v ∷ tail_of fs) × (low ≤ v) × (v ≤ high)
number_read_is_first n k low high [] v small e = absurd cc
number_read_is_first n k low high (f ∷ fs) v small e =
    let b = number_read_is_decimal low high f v small (not_refused (field_at n k) (number_in low high f) v e) in
    (ap (λ g. g ∷ fs) b.0, b.1, b.2)

pub first_decimal_is_read : (n k low high v : ℕ) (fs : List (List ℕ)) → low ≤ v → v ≤ high → high < 2 ^ 64 → read_number n k low high (decimal v ∷ fs) ≡ Ok v
first_decimal_is_read n k low high v fs ge le small = ap (or_refused (field_at n k)) (decimal_is_read low high v ge le (omega arith))

pub end_read_is_no_field : (n k : ℕ) (fs : List (List ℕ)) (u : Unit {0}) → read_end n k fs ≡ Ok u → fs ≡ []
end_read_is_no_field n k [] u e = refl
end_read_is_no_field n k (f ∷ fs) u e = absurd cc
