-- A line is read as l exactly if it is the writing of l. Assumes nothing.
use Rattle.std.proofs.Common.{◌≡◌, ℕ, ◌^◌, ◌<◌, ◌≤◌, Bool, true, false, cond, eqb, List, [], ◌∷◌, length, Some, None, Ok, Err, decimal, Option, sym, refl, ap, ◌∙◌, subst, arith}
use Rattle.std.proofs.lemmas.Bool.{eqb-true}
use Rattle.text.specs.Fields.{dash_in}
use Rattle.text.specs.Lines.{all_printable, is_clean}
use Rattle.text.specs.Numbers.{all_digits, number_in}
use Rattle.text.specs.Pieces.{pieces, joined}
use Rattle.text.specs.Places.{letter_at, field_at}
use Rattle.text.specs.Reading.{tail_of, or_refused, read_letter, read_number, read_end}
use Rattle.text.proofs.Cutting.{pieces_rejoin, joined_pieces_part}
use Rattle.text.proofs.Decimals.{number_read_is_decimal, decimal_is_digits, decimal_is_read}
use Rattle.text.proofs.Printing.{printable_marked, length_marked, short_printable_is_clean}
use Rattle.text.proofs.Taking.{letter_read_is_first, dash_is_its_byte, number_read_is_first, first_decimal_is_read, end_read_is_no_field}
use Rattle.text.proofs.WrittenFields.{WrittenWell, decimal_is_well}
use Rattle.fault.proofs.Then.{same_ok, then_ok, ok_then, cond_ok}
use Rattle.switch.specs.declared.line.SwitchLine.{SwitchLine}
use Rattle.switch.specs.Reading.{as_out, read_out, most_value, read_rest, line_in, parse}
use Rattle.switch.specs.Writing.{out_bytes, fields_of, line_bytes, Makes, Fit}

abbrev OutChannel : Option ℕ → Type 0
OutChannel None = Unit {0}
OutChannel (Some c) = (16 ≤ c) × (c ≤ 31)

-- the out field
out_number : (n : ℕ) (f : List ℕ) (r o : Option ℕ) → number_in 16 31 f ≡ r → or_refused (field_at n 7) (as_out r) ≡ Ok o → (f ≡ out_bytes o) × OutChannel o
out_number n f None o s e = let z : ◌≡◌ {A = ℕ} 0 1 = cc in absurd (omega arith)
out_number n f (Some c) o s e =
    let b = number_read_is_decimal 16 31 f c (omega arith) s in
    let q : Some c ≡ o = cc in
    subst (λ (p : Option ℕ). (f ≡ out_bytes p) × OutChannel p) q (b.0, (b.1, b.2))

out_first : (n : ℕ) (f : List ℕ) (o : Option ℕ) (d : Bool) → dash_in f ≡ d → or_refused (field_at n 7) (cond d (Some None) (as_out (number_in 16 31 f))) ≡ Ok o → (f ≡ out_bytes o) × OutChannel o
out_first n f o true s e = let q : None ≡ o = cc in subst (λ (p : Option ℕ). (f ≡ out_bytes p) × OutChannel p) q (dash_is_its_byte f s, tt)
out_first n f o false s e = out_number n f (number_in 16 31 f) o refl e

out_read_is_first : (n : ℕ) (fs : List (List ℕ)) (o : Option ℕ) → read_out n fs ≡ Ok o → (fs ≡ out_bytes o ∷ tail_of fs) × OutChannel o
out_read_is_first n [] o e = let z : ◌≡◌ {A = ℕ} 0 1 = cc in absurd (omega arith)
out_read_is_first n (f ∷ fs) o e = let a = out_first n f o (dash_in f) refl e in (ap (λ g. g ∷ fs) a.0, a.1)

no_dash : (bs : List ℕ) (d : Bool) → dash_in bs ≡ d → all_digits bs ≡ true → dash_in bs ≡ false
no_dash bs false s e = s
no_dash bs true s e =
    let p : all_digits (45 ∷ []) ≡ true = subst (λ (x : List ℕ). all_digits x ≡ true) (dash_is_its_byte bs s) e in
    let z : ◌≡◌ {A = ℕ} 0 1 = cc in
    absurd (omega arith)

first_out_is_read : (n : ℕ) (o : Option ℕ) (fs : List (List ℕ)) → OutChannel o → read_out n (out_bytes o ∷ fs) ≡ Ok o
first_out_is_read n None fs r = refl
first_out_is_read n (Some c) fs r =
    ap (λ b. or_refused (field_at n 7) (cond b (Some None) (as_out (number_in 16 31 (decimal c))))) (no_dash (decimal c) (dash_in (decimal c)) refl (decimal_is_digits c (omega arith)))
    ∙ ap (λ m. or_refused (field_at n 7) (as_out m)) (decimal_is_read 16 31 c r.0 r.1 (omega arith))

-- the out field together with the value
makes : (o : Option ℕ) (v : ℕ) → OutChannel o → v ≤ most_value o → Makes o v
makes None v r h = omega arith
makes (Some c) v r h = (r.0, r.1, omega arith)

makes_channel : (o : Option ℕ) (v : ℕ) → Makes o v → OutChannel o
makes_channel None v f = tt
makes_channel (Some c) v f = (f.0, f.1)

makes_at_most : (o : Option ℕ) (v : ℕ) → Makes o v → v ≤ most_value o
makes_at_most None v f = omega arith
makes_at_most (Some c) v f = omega arith

most_small : (o : Option ℕ) → most_value o < 2 ^ 32
most_small None = omega arith
most_small (Some c) = omega arith

-- facts on what is left after each field make all fields
all_fields : (f2 f3 f4 f5 f6 f7 f8 f9 : List (List ℕ)) (b c d e f g h : List ℕ) → f2 ≡ b ∷ f3 → f3 ≡ c ∷ f4 → f4 ≡ d ∷ f5 → f5 ≡ e ∷ f6 → f6 ≡ f ∷ f7 → f7 ≡ g ∷ f8 → f8 ≡ h ∷ f9 → f9 ≡ [] → f2 ≡ b ∷ c ∷ d ∷ e ∷ f ∷ g ∷ h ∷ []
all_fields f2 f3 f4 f5 f6 f7 f8 f9 b c d e f g h e2 e3 e4 e5 e6 e7 e8 e9 = cc

rest_back : (n : ℕ) (f2 : List (List ℕ)) (l : SwitchLine) → read_rest n f2 ≡ Ok l → (f2 ≡ tail_of (fields_of l)) × Fit l
rest_back n f2 l e =
    let t2 = then_ok (read_number n 2 0 255 f2) _ l e in
    let f3 = tail_of f2 in
    let t3 = then_ok (read_number n 3 0 15 f3) _ l t2.2 in
    let f4 = tail_of f3 in
    let t4 = then_ok (read_number n 4 0 4294967295 f4) _ l t3.2 in
    let f5 = tail_of f4 in
    let t5 = then_ok (read_number n 5 t4.0 4294967295 f5) _ l t4.2 in
    let f6 = tail_of f5 in
    let t6 = then_ok (read_number n 6 0 255 f6) _ l t5.2 in
    let f7 = tail_of f6 in
    let t7 = then_ok (read_out n f7) _ l t6.2 in
    let f8 = tail_of f7 in
    let t8 = then_ok (read_number n 8 0 (most_value t7.0) f8) _ l t7.2 in
    let f9 = tail_of f8 in
    let t9 = then_ok (read_end n 9 f9) _ l t8.2 in
    let a2 = number_read_is_first n 2 0 255 f2 t2.0 (omega arith) t2.1 in
    let a3 = number_read_is_first n 3 0 15 f3 t3.0 (omega arith) t3.1 in
    let a4 = number_read_is_first n 4 0 4294967295 f4 t4.0 (omega arith) t4.1 in
    let a5 = number_read_is_first n 5 t4.0 4294967295 f5 t5.0 (omega arith) t5.1 in
    let a6 = number_read_is_first n 6 0 255 f6 t6.0 (omega arith) t6.1 in
    let a7 = out_read_is_first n f7 t7.0 t7.1 in
    let a8 = number_read_is_first n 8 0 (most_value t7.0) f8 t8.0 (omega (arith, most_small t7.0)) t8.1 in
    let a9 = end_read_is_no_field n 9 f9 t9.0 t9.1 in
    let m : SwitchLine = record { state = t2.0; channel = t3.0; low = t4.0; high = t5.0; next = t6.0; out = t7.0; value = t8.0 } in
    let q : m ≡ l = same_ok m l t9.2 in
    subst (λ (k : SwitchLine). (f2 ≡ tail_of (fields_of k)) × Fit k) q (
      all_fields f2 f3 f4 f5 f6 f7 f8 f9 _ _ _ _ _ _ _ a2.0 a3.0 a4.0 a5.0 a6.0 a7.0 a8.0 a9,
      record { state = omega (arith, a2.2); channel = omega (arith, a3.2); low = a5.1; high = omega (arith, a5.2); next = omega (arith, a6.2); out = makes t7.0 t8.0 a7.1 a8.2 },
    )

pub line_read_is_writing : (n : ℕ) (p : List ℕ) (l : SwitchLine) → parse n p ≡ Ok l → (p ≡ line_bytes l) × Fit l
line_read_is_writing n p l e =
    let fs = pieces 44 p in
    let t = then_ok (read_letter n fs) (λ c. cond (eqb c 84) (read_rest n (tail_of fs)) (Err (letter_at n))) l e in
    let b = cond_ok (eqb t.0 84) (read_rest n (tail_of fs)) (letter_at n) l t.2 in
    let r = rest_back n (tail_of fs) l b.1 in
    let first = letter_read_is_first n fs t.0 t.1 ∙ ap (λ c. (c ∷ []) ∷ tail_of fs) (eqb-true t.0 84 b.0) in
    (sym (pieces_rejoin 44 p) ∙ ap (joined 44) (first ∙ ap (λ gs. (84 ∷ []) ∷ gs) r.0), r.1)

rest_forth : (n : ℕ) (l : SwitchLine) → Fit l → read_rest n (tail_of (fields_of l)) ≡ Ok l
rest_forth n l f =
    let o = f.out in
    let h = f.high in
    ok_then _ (Ok l) (first_decimal_is_read n 2 0 255 l.state [] (omega arith) (let a = f.state in omega arith) (omega arith))
    (ok_then _ (Ok l) (first_decimal_is_read n 3 0 15 l.channel [] (omega arith) (let a = f.channel in omega arith) (omega arith))
    (ok_then _ (Ok l) (first_decimal_is_read n 4 0 4294967295 l.low [] (omega arith) (let a = f.low in omega arith) (omega arith))
    (ok_then _ (Ok l) (first_decimal_is_read n 5 l.low 4294967295 l.high [] f.low (omega arith) (omega arith))
    (ok_then _ (Ok l) (first_decimal_is_read n 6 0 255 l.next [] (omega arith) (let a = f.next in omega arith) (omega arith))
    (ok_then _ (Ok l) (first_out_is_read n l.out [] (makes_channel l.out l.value o))
    (ok_then _ (Ok l) (first_decimal_is_read n 8 0 (most_value l.out) l.value [] (omega arith) (makes_at_most l.out l.value o) (omega (arith, most_small l.out)))
    refl))))))

-- what is written of a line keeps the limits on bytes
out_is_well : (o : Option ℕ) → OutChannel o → WrittenWell 10 (out_bytes o)
out_is_well None r = ((refl, tt), refl, omega arith)
out_is_well (Some c) r = decimal_is_well c (omega arith)

module _ (l : SwitchLine) (f : Fit l) where
  state : WrittenWell 10 (decimal l.state)
  state = decimal_is_well l.state (let a = f.state in omega arith)

  channel : WrittenWell 10 (decimal l.channel)
  channel = decimal_is_well l.channel (let a = f.channel in omega arith)

  low : WrittenWell 10 (decimal l.low)
  low = decimal_is_well l.low (let a = f.low in let b = f.high in omega arith)

  high : WrittenWell 10 (decimal l.high)
  high = decimal_is_well l.high f.high

  next : WrittenWell 10 (decimal l.next)
  next = decimal_is_well l.next (let a = f.next in omega arith)

  out : WrittenWell 10 (out_bytes l.out)
  out = out_is_well l.out (makes_channel l.out l.value f.out)

  value : WrittenWell 10 (decimal l.value)
  value = decimal_is_well l.value (let a = makes_at_most l.out l.value f.out in let b = most_small l.out in omega arith)

  fields_part : pieces 44 (line_bytes l) ≡ fields_of l
  fields_part = joined_pieces_part 44 (84 ∷ []) _ (refl, tt) (state.0, (channel.0, (low.0, (high.0, (next.0, (out.0, (value.0, tt)))))))

  line_is_printable : all_printable (line_bytes l) ≡ true
  line_is_printable = printable_marked 44 (tail_of (fields_of l)) refl (state.1, (channel.1, (low.1, (high.1, (next.1, (out.1, (value.1, tt)))))))

  pub line_is_short : length (line_bytes l) ≤ 80
  line_is_short =
      let a = state.2 in
      let b = channel.2 in
      let c = low.2 in
      let d = high.2 in
      let e = next.2 in
      let g = out.2 in
      let h = value.2 in
      simp length_marked (omega arith)

  pub line_is_clean : is_clean (line_bytes l) ≡ true
  line_is_clean = short_printable_is_clean (line_bytes l) line_is_short line_is_printable

pub writing_is_read : (n : ℕ) (l : SwitchLine) → Fit l → parse n (line_bytes l) ≡ Ok l
writing_is_read n l f = ap (line_in n) (fields_part l f) ∙ rest_forth n l f
