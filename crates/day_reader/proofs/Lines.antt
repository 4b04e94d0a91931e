-- A line is read as h exactly if it is the writing of h. Assumes nothing.
use Rattle.std.proofs.Common.{◌≡◌, ℕ, ◌≤◌, true, cond, eqb, List, [], ◌∷◌, length, Ok, Err, decimal, sym, refl, ap, ◌∙◌, subst, arith}
use Rattle.std.proofs.lemmas.Bool.{eqb-true}
use Rattle.fault.proofs.Then.{same_ok, then_ok, ok_then, cond_ok}
use Rattle.text.specs.Lines.{all_printable, is_clean}
use Rattle.text.specs.Pieces.{pieces, joined}
use Rattle.text.specs.Places.{letter_at}
use Rattle.text.specs.Reading.{tail_of, read_letter, read_number, read_end}
use Rattle.text.proofs.Cutting.{pieces_rejoin, joined_pieces_part}
use Rattle.text.proofs.Printing.{printable_marked, length_marked, short_printable_is_clean}
use Rattle.text.proofs.Taking.{letter_read_is_first, number_read_is_first, first_decimal_is_read, end_read_is_no_field}
use Rattle.text.proofs.WrittenFields.{WrittenWell, decimal_is_well}
use Rattle.day_reader.specs.declared.hand_in.HandIn.{HandIn}
use Rattle.day_reader.specs.HandIns.{Fit}
use Rattle.day_reader.specs.Reading.{read_rest, line_in, parse}
use Rattle.day_reader.specs.Writing.{fields_of, line_bytes}

-- facts on what is left after each field make all fields
all_fields : (f2 f3 f4 : List (List ℕ)) (a b : List ℕ) → f2 ≡ a ∷ f3 → f3 ≡ b ∷ f4 → f4 ≡ [] → f2 ≡ a ∷ b ∷ []
all_fields f2 f3 f4 a b e2 e3 e4 = cc

rest_back : (n : ℕ) (f2 : List (List ℕ)) (h : HandIn) → read_rest n f2 ≡ Ok h → (f2 ≡ tail_of (fields_of h)) × Fit h
rest_back n f2 h e =
    let t2 = then_ok (read_number n 2 0 255 f2) _ h e in
    let f3 = tail_of f2 in
    let t3 = then_ok (read_number n 3 0 4294967295 f3) _ h t2.2 in
    let f4 = tail_of f3 in
    let t4 = then_ok (read_end n 4 f4) _ h t3.2 in
    let a2 = number_read_is_first n 2 0 255 f2 t2.0 (omega arith) t2.1 in
    let a3 = number_read_is_first n 3 0 4294967295 f3 t3.0 (omega arith) t3.1 in
    let a4 = end_read_is_no_field n 4 f4 t4.0 t4.1 in
    let g : HandIn = record { channel = t2.0; value = t3.0 } in
    subst (λ (k : HandIn). (f2 ≡ tail_of (fields_of k)) × Fit k) (same_ok g h t4.2) (
      all_fields f2 f3 f4 _ _ a2.0 a3.0 a4,
      record { channel = omega (arith, a2.2); value = omega (arith, a3.2) },
    )

pub line_read_is_writing : (n : ℕ) (p : List ℕ) (h : HandIn) → parse n p ≡ Ok h → (p ≡ line_bytes h) × Fit h
line_read_is_writing n p h e =
    let fs = pieces 44 p in
    let t = then_ok (read_letter n fs) (λ c. cond (eqb c 68) (read_rest n (tail_of fs)) (Err (letter_at n))) h e in
    let b = cond_ok (eqb t.0 68) (read_rest n (tail_of fs)) (letter_at n) h t.2 in
    let r = rest_back n (tail_of fs) h b.1 in
    let first = letter_read_is_first n fs t.0 t.1 ∙ ap (λ c. (c ∷ []) ∷ tail_of fs) (eqb-true t.0 68 b.0) in
    (sym (pieces_rejoin 44 p) ∙ ap (joined 44) (first ∙ ap (λ gs. (68 ∷ []) ∷ gs) r.0), r.1)

-- what is written of a line is read again, and keeps the limits on bytes
module _ (h : HandIn) (f : Fit h) where
  rest_forth : (n : ℕ) → read_rest n (tail_of (fields_of h)) ≡ Ok h
  rest_forth n =
      ok_then _ (Ok h) (first_decimal_is_read n 2 0 255 h.channel [] (omega arith) (let a = f.channel in omega arith) (omega arith))
      (ok_then _ (Ok h) (first_decimal_is_read n 3 0 4294967295 h.value [] (omega arith) (let a = f.value in omega arith) (omega arith))
      refl)

  channel : WrittenWell 10 (decimal h.channel)
  channel = decimal_is_well h.channel (let a = f.channel in omega arith)

  value : WrittenWell 10 (decimal h.value)
  value = decimal_is_well h.value f.value

  fields_part : pieces 44 (line_bytes h) ≡ fields_of h
  fields_part = joined_pieces_part 44 (68 ∷ []) _ (refl, tt) (channel.0, (value.0, tt))

  line_is_printable : all_printable (line_bytes h) ≡ true
  line_is_printable = printable_marked 44 (tail_of (fields_of h)) refl (channel.1, (value.1, tt))

  line_is_short : length (line_bytes h) ≤ 80
  line_is_short =
      let a = channel.2 in
      let b = value.2 in
      simp length_marked (omega arith)

  pub line_is_clean : is_clean (line_bytes h) ≡ true
  line_is_clean = short_printable_is_clean (line_bytes h) line_is_short line_is_printable

pub writing_is_read : (n : ℕ) (h : HandIn) → Fit h → parse n (line_bytes h) ≡ Ok h
writing_is_read n h f = ap (line_in n) (fields_part h f) ∙ rest_forth h f n
