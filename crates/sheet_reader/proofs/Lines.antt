-- A line is read as l exactly if it is the writing of l. Assumes nothing.
use Rattle.std.proofs.Common.{◌≡◌, ℕ, ◌≤◌, Bool, true, false, cond, eqb, List, [], ◌∷◌, length, Ok, Err, decimal, sym, refl, ap, ◌∙◌, subst, arith}
use Rattle.std.proofs.lemmas.Bool.{eqb-true}
use Rattle.fault.specs.Faults.{then}
use Rattle.fault.proofs.Then.{same_ok, then_ok, ok_then, cond_ok}
use Rattle.text.specs.Lines.{all_printable, is_clean}
use Rattle.text.specs.Pieces.{pieces, marked, joined}
use Rattle.text.specs.Places.{letter_at}
use Rattle.text.specs.Reading.{tail_of, read_letter, read_number, read_end}
use Rattle.text.proofs.Cutting.{pieces_rejoin, joined_pieces_part}
use Rattle.text.proofs.Printing.{printable_append, printable_marked, length_marked, short_printable_is_clean}
use Rattle.text.proofs.Taking.{letter_read_is_first, number_read_is_first, first_decimal_is_read, end_read_is_no_field}
use Rattle.text.proofs.WrittenFields.{WrittenWell, decimal_is_well}
use Rattle.sheet_reader.specs.declared.line.Name.{Name}
use Rattle.sheet_reader.specs.declared.line.Name.TheVariants.{Channel, Variable}
use Rattle.sheet_reader.specs.declared.line.SheetLine.{SheetLine}
use Rattle.sheet_reader.specs.Naming.{FitName}
use Rattle.sheet_reader.specs.Reading.{read_name, line_in, parse}
use Rattle.sheet_reader.specs.Writing.{letter_of, number_of, fields_of, line_bytes, Fit}

-- the letter c and the first of the fields fs are the writing of the name
abbrev Names : ℕ → List (List ℕ) → Name → Type 0
Names c fs m = (c ≡ letter_of m) × (fs ≡ decimal (number_of m) ∷ tail_of fs) × FitName m

channel_back : (n c : ℕ) (fs : List (List ℕ)) (m : Name) → c ≡ 67 → then (read_number n 2 0 31 fs) (λ k. Ok (Channel k)) ≡ Ok m → Names c fs m
channel_back n c fs m s e =
    let t = then_ok (read_number n 2 0 31 fs) _ m e in
    let a = number_read_is_first n 2 0 31 fs t.0 (omega arith) t.1 in
    subst (λ (k : Name). Names c fs k) (same_ok (Channel t.0) m t.2) (s, a.0, omega (arith, a.2))

variable_back : (n c : ℕ) (fs : List (List ℕ)) (m : Name) → c ≡ 86 → then (read_number n 2 0 15 fs) (λ k. Ok (Variable k)) ≡ Ok m → Names c fs m
variable_back n c fs m s e =
    let t = then_ok (read_number n 2 0 15 fs) _ m e in
    let a = number_read_is_first n 2 0 15 fs t.0 (omega arith) t.1 in
    subst (λ (k : Name). Names c fs k) (same_ok (Variable t.0) m t.2) (s, a.0, omega (arith, a.2))

by_letter : (n c : ℕ) (fs : List (List ℕ)) (m : Name) (b : Bool) → eqb c 67 ≡ b
    → cond b (then (read_number n 2 0 31 fs) (λ k. Ok (Channel k))) (cond (eqb c 86) (then (read_number n 2 0 15 fs) (λ k. Ok (Variable k))) (Err (letter_at n))) ≡ Ok m → Names c fs m
by_letter n c fs m true s e = channel_back n c fs m (eqb-true c 67 s) e
by_letter n c fs m false s e = let b = cond_ok (eqb c 86) _ (letter_at n) m e in variable_back n c fs m (eqb-true c 86 b.0) b.1

name_back : (n c : ℕ) (fs : List (List ℕ)) (m : Name) → read_name n c fs ≡ Ok m → Names c fs m
name_back n c fs m e = by_letter n c fs m (eqb c 67) refl e

-- facts on what is left after each field make all fields
all_fields : (fs f2 f3 f4 : List (List ℕ)) (c d : ℕ) (a b : List ℕ) → fs ≡ (c ∷ []) ∷ f2 → c ≡ d → f2 ≡ a ∷ f3 → f3 ≡ b ∷ f4 → f4 ≡ [] → fs ≡ (d ∷ []) ∷ a ∷ b ∷ []
all_fields fs f2 f3 f4 c d a b e1 s e2 e3 e4 = cc

line_back : (n : ℕ) (fs : List (List ℕ)) (l : SheetLine) → line_in n fs ≡ Ok l → (fs ≡ fields_of l) × Fit l
line_back n fs l e =
    let t1 = then_ok (read_letter n fs) _ l e in
    let f2 = tail_of fs in
    let t2 = then_ok (read_name n t1.0 f2) _ l t1.2 in
    let f3 = tail_of f2 in
    let t3 = then_ok (read_number n 3 0 255 f3) _ l t2.2 in
    let f4 = tail_of f3 in
    let t4 = then_ok (read_end n 4 f4) _ l t3.2 in
    let a1 = letter_read_is_first n fs t1.0 t1.1 in
    let a2 = name_back n t1.0 f2 t2.0 t2.1 in
    let a3 = number_read_is_first n 3 0 255 f3 t3.0 (omega arith) t3.1 in
    let a4 = end_read_is_no_field n 4 f4 t4.0 t4.1 in
    let m : SheetLine = record { name = t2.0; level = t3.0 } in
    subst (λ (k : SheetLine). (fs ≡ fields_of k) × Fit k) (same_ok m l t4.2) (
      all_fields fs f2 f3 f4 _ _ _ _ a1 a2.0 a2.1 a3.0 a4,
      record { name = a2.2; level = omega (arith, a3.2) },
    )

pub line_read_is_writing : (n : ℕ) (p : List ℕ) (l : SheetLine) → parse n p ≡ Ok l → (p ≡ line_bytes l) × Fit l
line_read_is_writing n p l e = let r = line_back n (pieces 44 p) l e in (sym (pieces_rejoin 44 p) ∙ ap (joined 44) r.0, r.1)

-- what is written of a name is read again
letter_forth : (n : ℕ) (m : Name) (fs : List (List ℕ)) → read_letter n ((letter_of m ∷ []) ∷ fs) ≡ Ok (letter_of m)
letter_forth n (Channel c) fs = refl
letter_forth n (Variable v) fs = refl

name_forth : (n : ℕ) (m : Name) (fs : List (List ℕ)) → FitName m → read_name n (letter_of m) (decimal (number_of m) ∷ fs) ≡ Ok m
name_forth n (Channel c) fs f = ok_then (λ k. Ok (Channel k)) (Ok (Channel c)) (first_decimal_is_read n 2 0 31 c fs (omega arith) (omega arith) (omega arith)) refl
name_forth n (Variable v) fs f = ok_then (λ k. Ok (Variable k)) (Ok (Variable v)) (first_decimal_is_read n 2 0 15 v fs (omega arith) (omega arith) (omega arith)) refl

line_forth : (n : ℕ) (l : SheetLine) → Fit l → line_in n (fields_of l) ≡ Ok l
line_forth n l f =
    ok_then _ (Ok l) (letter_forth n l.name [])
    (ok_then _ (Ok l) (name_forth n l.name [] f.name)
    (ok_then _ (Ok l) (first_decimal_is_read n 3 0 255 l.level [] (omega arith) (let a = f.level in omega arith) (omega arith))
    refl))

-- what is written of a line keeps the limits on bytes
letter_is_well : (m : Name) → WrittenWell 10 (letter_of m ∷ [])
letter_is_well (Channel c) = ((refl, tt), refl, omega arith)
letter_is_well (Variable v) = ((refl, tt), refl, omega arith)

number_is_well : (m : Name) → FitName m → WrittenWell 10 (decimal (number_of m))
number_is_well (Channel c) f = decimal_is_well c (omega arith)
number_is_well (Variable v) f = decimal_is_well v (omega arith)

module _ (l : SheetLine) (f : Fit l) where
  letter : WrittenWell 10 (letter_of l.name ∷ [])
  letter = letter_is_well l.name

  number : WrittenWell 10 (decimal (number_of l.name))
  number = number_is_well l.name f.name

  level : WrittenWell 10 (decimal l.level)
  level = decimal_is_well l.level (let a = f.level in omega arith)

  fields_part : pieces 44 (line_bytes l) ≡ fields_of l
  fields_part = joined_pieces_part 44 (letter_of l.name ∷ []) _ letter.0 (number.0, (level.0, tt))

  line_is_printable : all_printable (line_bytes l) ≡ true
  line_is_printable = printable_append (letter_of l.name ∷ []) (marked 44 (tail_of (fields_of l))) letter.1 (printable_marked 44 (tail_of (fields_of l)) refl (number.1, (level.1, tt)))

  pub line_is_short : length (line_bytes l) ≤ 80
  line_is_short =
      let b = number.2 in
      let c = level.2 in
      simp length_marked (omega arith)

  pub line_is_clean : is_clean (line_bytes l) ≡ true
  line_is_clean = short_printable_is_clean (line_bytes l) line_is_short line_is_printable

pub writing_is_read : (n : ℕ) (l : SheetLine) → Fit l → parse n (line_bytes l) ≡ Ok l
writing_is_read n l f = ap (line_in n) (fields_part l f) ∙ line_forth n l f
