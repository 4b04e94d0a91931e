-- A number is read exactly from the digits that `decimal` writes of it. Assumes nothing.
use Rattle.std.proofs.Common.{◌≡◌, ℕ, ◌+◌, ◌-◌, ◌*◌, ◌^◌, ◌<◌, ◌≤◌, Bool, true, false, cond, ◌&&◌, leb, List, [], ◌∷◌, length, get_or, drop, Some, None, decimal, Option, sym, refl, ap, ◌∙◌, ⊎_elim, le_refl, arith, rules}
use Rattle.std.proofs.lemmas.Fmt.{decimal-digits_value, digits_decimal, digits_value-decimal, decimal_nonempty, first_decimal, decimal_digit}
use Rattle.std.proofs.lemmas.List.{drop_more}
use Rattle.std.proofs.lemmas.Option.{cond_some}
use Rattle.std.proofs.lemmas.Str.Parse.{IsNumeralModel, numerals_by_fold}
use Rattle.std.proofs.lemmas.Bool.{leb-true, le-leb, lt-leb, cases_eq}
use Rattle.std.proofs.lemmas.Bool.Decides.{nat_tests}
use Rattle.text.specs.Classes.{is_digit}
use Rattle.text.specs.Numbers.{all_digits, value_after, at_most, at_least, digits_in, is_plain, number_in}

-- more digits never make less
grows : (a : ℕ) (bs : List ℕ) → a ≤ value_after a bs
grows a [] = le_refl a
grows a (b ∷ bs) = let h = grows (a * 10 + (b - 48)) bs in omega arith

none : (t : Bool) → cond {A = Option ℕ} t None None ≡ None
none true = refl
none false = refl

past : (high a : ℕ) (bs : List ℕ) → high < a → digits_in high a bs ≡ None
past high a bs h =
    let g = grows a bs in
    let over : high < value_after a bs = omega arith in
    simp (lt-leb (value_after a bs) high over) (none (all_digits bs))

-- the byte at the place i of s, which is what the loop over the digits meets
module _ (high a : ℕ) (s : List ℕ) (i : ℕ) (h : i < length s) where
  here : (t : Bool) → is_digit (get_or s i 0) ≡ t → digits_in high a (drop i s) ≡ cond (t && all_digits (drop (i + 1) s)) (at_most high (value_after (a * 10 + (get_or s i 0 - 48)) (drop (i + 1) s))) None
  here t e =
      ap (digits_in high a) (drop_more s i 0 h)
      ∙ ap (λ b. cond (b && all_digits (drop (i + 1) s)) (at_most high (value_after (a * 10 + (get_or s i 0 - 48)) (drop (i + 1) s))) None) e

  pub digit_here : is_digit (get_or s i 0) ≡ true → digits_in high a (drop i s) ≡ digits_in high (a * 10 + (get_or s i 0 - 48)) (drop (i + 1) s)
  digit_here e = here true e

  pub no_digit_here : is_digit (get_or s i 0) ≡ false → digits_in high a (drop i s) ≡ None
  no_digit_here e = here false e

  pub too_large_here : is_digit (get_or s i 0) ≡ true → high < a * 10 + (get_or s i 0 - 48) → digits_in high a (drop i s) ≡ None
  too_large_here e over = digit_here e ∙ past high _ (drop (i + 1) s) over

-- the shelf's laws of numerals hold of these
numerals : IsNumeralModel (λ ds. all_digits ds ≡ true) (value_after 0)
numerals = numerals_by_fold _ (search rules) value_after (search rules)

passed : (b : Bool) (x : Option ℕ) (v : ℕ) → cond b x None ≡ Some v → (b ≡ true) × (x ≡ Some v)
passed true x v e = (refl, e)
passed false x v e = absurd cc

plain_some : (bs : List ℕ) → is_plain bs ≡ true → (0 < length bs) × (get_or bs 0 0 ≡ 48 → length bs ≡ 1)
plain_some bs e = (grind (arith, nat_tests), λ z. grind (arith, nat_tests))

least_some : (low : ℕ) (o : Option ℕ) (v : ℕ) → at_least low o ≡ Some v → (o ≡ Some v) × (low ≤ v)
least_some low None v e = absurd cc
least_some low (Some n) v e =
    let a = cond_some (leb low n) n v e in
    let le : low ≤ n = leb-true low n a.0 in
    (ap (λ m. Some m) a.1, omega (arith, a.1))

pub number_read_is_decimal : (low high : ℕ) (bs : List ℕ) (v : ℕ) → high < 2 ^ 64 → number_in low high bs ≡ Some v → (bs ≡ decimal v) × (low ≤ v) × (v ≤ high)
number_read_is_decimal low high bs v small e =
    let l = least_some low (cond (is_plain bs) (digits_in high 0 bs) None) v e in
    let a = passed (is_plain bs) (digits_in high 0 bs) v l.0 in
    let b = passed (all_digits bs) (at_most high (value_after 0 bs)) v a.1 in
    let d = cond_some (leb (value_after 0 bs) high) (value_after 0 bs) v b.1 in
    let le : value_after 0 bs ≤ high = leb-true (value_after 0 bs) high d.0 in
    let p = plain_some bs a.0 in
    (sym (decimal-digits_value numerals bs b.0 p.0 p.1 (omega arith)) ∙ ap decimal d.1, l.1, omega (arith, d.1))

plain_from : (bs : List ℕ) → 0 < length bs → 48 < get_or bs 0 0 → is_plain bs ≡ true
plain_from bs a b = grind (arith, nat_tests)

plain_zero : (v : ℕ) → v ≡ 0 → is_plain (decimal v) ≡ true
plain_zero v e = ap (λ n. is_plain (decimal n)) e ∙ ap is_plain (decimal_digit 0 (omega arith))

decimal_is_plain : (v : ℕ) → v < 2 ^ 64 → is_plain (decimal v) ≡ true
decimal_is_plain v small =
    ⊎_elim (λ z. plain_zero v z)
    (λ n. let some : 0 < v = omega arith in plain_from (decimal v) (decimal_nonempty v small) (first_decimal v some small))
    (cases_eq v 0)

pub decimal_is_digits : (v : ℕ) → v < 2 ^ 64 → all_digits (decimal v) ≡ true
decimal_is_digits v small = digits_decimal numerals v small

pub decimal_is_read : (low high v : ℕ) → low ≤ v → v ≤ high → v < 2 ^ 64 → number_in low high (decimal v) ≡ Some v
decimal_is_read low high v ge le small =
    ap (λ b. at_least low (cond b (digits_in high 0 (decimal v)) None)) (decimal_is_plain v small)
    ∙ ap (λ b. at_least low (cond b (at_most high (value_after 0 (decimal v))) None)) (decimal_is_digits v small)
    ∙ ap (λ n. at_least low (at_most high n)) (digits_value-decimal numerals v small)
    ∙ ap (λ b. at_least low (cond b (Some v) None)) (le-leb v high le)
    ∙ ap (λ b. cond b (Some v) None) (le-leb low v ge)
