-- Reading a scheme inverts writing it. Assumes nothing.
use Rattle.std.proofs.Common.{◌≡◌, ℕ, ◌^◌, ◌<◌, ◌≤◌, Bool, true, false, cond, eqb, leb, List, [], ◌∷◌, length, Ok, Err, codes, decimal, Result, sym, refl, ap, ◌∙◌, subst, arith, length-append}
use Rattle.std.proofs.lemmas.Slice.Eq.{bytes_eq-Decides}
use Rattle.std.proofs.lemmas.List.{nil_from_length}
use Rattle.std.proofs.lemmas.Bool.{cond-true, and_parts, and_from, eqb-true, leb-true, le-leb}
use Rattle.std.specs.Str.{bytes_eq}
use Rattle.fault.specs.declared.Fault.{Fault}
use Rattle.fault.specs.declared.Reason.TheVariants as reason
use Rattle.fault.specs.Faults.{unplaced}
use Rattle.fault.proofs.Then.{same_ok, ok_not_err, then_ok, ok_then, cond_ok}
use Rattle.levels.specs.Chain.{is_chain}
use Rattle.levels.specs.Parties.{is_parties}
use Rattle.text.specs.Lines.{is_clean, first_is_ragged}
use Rattle.text.specs.Pieces.{pieces, marked, joined}
use Rattle.text.specs.Places.{ragged_at, letter_at, level_at}
use Rattle.text.specs.Reading.{tail_of, read_number, read_end}
use Rattle.text.specs.Texts.{fed}
use Rattle.text.proofs.Cutting.{pieces_mark, pieces_rejoin, shorter, joined_pieces_part}
use Rattle.text.proofs.Printing.{printable_append, printable_marked, short_printable_is_clean, clean_is_free}
use Rattle.text.proofs.Taking.{number_read_is_first, first_decimal_is_read, end_read_is_no_field}
use Rattle.text.proofs.WrittenFields.{WrittenWell, decimal_is_well}
use Rattle.scheme_reader.specs.declared.SchemeChoice.{SchemeChoice}
use Rattle.scheme_reader.specs.Reading.{SizedScheme, chain_of, parties_of, told, size_of, size_in, chain_in, parties_in, line_in, only_piece, only_line, reading}
use Rattle.scheme_reader.specs.Writing.{fields_of, written, Fit, ReadingInvertsWriting, Accepts}
use Rattle.scheme_reader.proofs.OnlyLine.{one_line}

-- what was read is what is written of it
size_back : (fs : List (List ℕ)) (n : ℕ) → size_in fs ≡ Ok n → fs ≡ decimal n ∷ []
size_back fs n e =
    let t = then_ok (read_number 1 2 0 255 fs) _ n e in
    let u = then_ok (read_end 1 3 (tail_of fs)) _ n t.2 in
    let a = number_read_is_first 1 2 0 255 fs t.0 (omega arith) t.1 in
    a.0 ∙ ap (λ gs. decimal t.0 ∷ gs) (end_read_is_no_field 1 3 (tail_of fs) u.0 u.1) ∙ ap (λ k. decimal k ∷ []) (same_ok t.0 n u.2)

chain_back : (fs : List (List ℕ)) (s : SizedScheme) → chain_in fs ≡ Ok s → (codes "chain" ∷ fs ≡ fields_of s) × Fit s
chain_back fs s e =
    let t = then_ok (size_in fs) _ s e in
    let c = cond_ok (is_chain t.0) (Ok (chain_of t.0)) (level_at 1 2) s t.2 in
    let a = and_parts (leb 1 t.0) (leb t.0 16) c.0 in
    subst (λ (x : SizedScheme). (codes "chain" ∷ fs ≡ fields_of x) × Fit x) (same_ok (chain_of t.0) s c.1)
    (ap (λ gs. codes "chain" ∷ gs) (size_back fs t.0 t.1), (leb-true 1 t.0 a.0, leb-true t.0 16 a.1))

parties_back : (fs : List (List ℕ)) (s : SizedScheme) → parties_in fs ≡ Ok s → (codes "parties" ∷ fs ≡ fields_of s) × Fit s
parties_back fs s e =
    let t = then_ok (size_in fs) _ s e in
    let c = cond_ok (is_parties t.0) (Ok (parties_of t.0)) (level_at 1 2) s t.2 in
    subst (λ (x : SizedScheme). (codes "parties" ∷ fs ≡ fields_of x) × Fit x) (same_ok (parties_of t.0) s c.1)
    (ap (λ gs. codes "parties" ∷ gs) (size_back fs t.0 t.1), leb-true t.0 4 c.0)

by_word : (f : List ℕ) (fs : List (List ℕ)) (s : SizedScheme) (b : Bool) → bytes_eq f (codes "chain") ≡ b
    → cond b (chain_in fs) (cond (bytes_eq f (codes "parties")) (parties_in fs) (Err (letter_at 1))) ≡ Ok s → (f ∷ fs ≡ fields_of s) × Fit s
by_word f fs s true w e = let r = chain_back fs s e in (ap (λ g. g ∷ fs) ((bytes_eq-Decides f (codes "chain")).0 w) ∙ r.0, r.1)
by_word f fs s false w e =
    let c = cond_ok (bytes_eq f (codes "parties")) (parties_in fs) (letter_at 1) s e in
    let r = parties_back fs s c.1 in
    (ap (λ g. g ∷ fs) ((bytes_eq-Decides f (codes "parties")).0 c.0) ∙ r.0, r.1)

line_back : (fs : List (List ℕ)) (s : SizedScheme) → line_in fs ≡ Ok s → (fs ≡ fields_of s) × Fit s
line_back [] s e = absurd (ok_not_err s (letter_at 1) (sym e))
line_back (f ∷ fs) s e = by_word f fs s (bytes_eq f (codes "chain")) refl e

only_back : (ps : List (List ℕ)) (p : List ℕ) → only_piece ps ≡ Ok p → ps ≡ p ∷ [] ∷ []
only_back [] p e = absurd (ok_not_err p (unplaced reason.Field) (sym e))
only_back (q ∷ []) p e = absurd (ok_not_err p (unplaced reason.Field) (sym e))
only_back (q ∷ r ∷ []) p e =
    let c = cond_ok (eqb (length r) 0) (Ok q) (unplaced reason.Field) p e in
    ap (λ x. q ∷ x ∷ []) (nil_from_length r (eqb-true (length r) 0 c.0)) ∙ ap (λ x. x ∷ [] ∷ []) (same_ok q p c.1)
only_back (q ∷ r ∷ s ∷ ss) p e = absurd (ok_not_err p (unplaced reason.Field) (sym e))

not_ragged : (b : Bool) (r : Result (List ℕ) Fault) (p : List ℕ) → cond b (Err (ragged_at 1)) r ≡ Ok p → r ≡ Ok p
not_ragged true r p e = absurd (ok_not_err p (ragged_at 1) (sym e))
not_ragged false r p e = e

line_is_text : (t p : List ℕ) → only_line t ≡ Ok p → t ≡ fed (p ∷ [])
line_is_text t p e =
    let c = cond_ok (leb (length t) 8192) _ (unplaced reason.Overlong) p e in
    sym (pieces_rejoin 10 t) ∙ ap (joined 10) (only_back (pieces 10 t) p (not_ragged (first_is_ragged (pieces 10 t)) (only_piece (pieces 10 t)) p c.1))

reading_is_written : (t : List ℕ) (s : SizedScheme) → reading t ≡ Ok s → (t ≡ written s) × Fit s
reading_is_written t s e =
    let o = then_ok (only_line t) _ s e in
    let l = line_back (pieces 44 o.0) s o.2 in
    (line_is_text t o.0 o.1 ∙ ap (λ p. fed (p ∷ [])) (sym (pieces_rejoin 44 o.0) ∙ ap (joined 44) l.0), l.1)

-- what is written is read again
size_forth : (n : ℕ) → n ≤ 255 → size_in (decimal n ∷ []) ≡ Ok n
size_forth n h = ok_then _ (Ok n) (first_decimal_is_read 1 2 0 255 n [] (omega arith) h (omega arith)) refl

line_forth : (s : SizedScheme) → Fit s → line_in (fields_of s) ≡ Ok s
line_forth (chain_of n) f =
    ok_then _ (Ok (chain_of n)) (size_forth n (omega (arith, f.1))) (cond-true (is_chain n) _ _ (and_from (leb 1 n) (leb n 16) (le-leb 1 n f.0) (le-leb n 16 f.1)))
line_forth (parties_of n) f = ok_then _ (Ok (parties_of n)) (size_forth n (omega arith)) (cond-true (is_parties n) _ _ (le-leb n 4 f))

-- a line of these fields is cut into them again, clean and short
abbrev LineWell : List (List ℕ) → Type 0
LineWell fs = (pieces 44 (joined 44 fs) ≡ fs) × (is_clean (joined 44 fs) ≡ true) × (length (joined 44 fs) ≤ 80)

two_fields : (w : List ℕ) (n : ℕ) → WrittenWell 10 w → n < 2 ^ 32 → LineWell (w ∷ decimal n ∷ [])
two_fields w n well h =
    let d = decimal_is_well n h in
    let a = well.2 in
    let b = d.2 in
    let short : length (joined 44 (w ∷ decimal n ∷ [])) ≤ 80 = simp length-append (omega arith) in (
      joined_pieces_part 44 w (decimal n ∷ []) well.0 (d.0, tt),
      short_printable_is_clean (joined 44 (w ∷ decimal n ∷ [])) short (printable_append w (marked 44 (decimal n ∷ [])) well.1 (printable_marked 44 (decimal n ∷ []) refl (d.1, tt))),
      short,
    )

line_is_well : (s : SizedScheme) → Fit s → LineWell (fields_of s)
line_is_well (chain_of n) f = two_fields (codes "chain") n ((refl, (refl, (refl, (refl, (refl, tt))))), refl, omega arith) (omega (arith, f.1))
line_is_well (parties_of n) f = two_fields (codes "parties") n ((refl, (refl, (refl, (refl, (refl, (refl, (refl, tt))))))), refl, omega arith) (omega arith)

written_is_reading : (t : List ℕ) (s : SizedScheme) → (t ≡ written s) × Fit s → reading t ≡ Ok s
written_is_reading t s h =
    let line = joined 44 (fields_of s) in
    let w = line_is_well s h.1 in
    let cut = pieces_mark 10 line [] (clean_is_free line w.1) in
    let long = length-append line (10 ∷ []) in
    let few = w.2 in
    ap reading h.0
    ∙ ok_then (λ p. line_in (pieces 44 p)) (Ok s)
    (one_line (written s) (omega arith) line [] (record { cut = cut; clean = w.1; shorter = shorter 10 (written s) line [] cut }) refl)
    (ap line_in w.0 ∙ line_forth s h.1)

pub reading_inverts_writing : ReadingInvertsWriting
reading_inverts_writing t s = (reading_is_written t s, written_is_reading t s)

pub answer_accepts : (t : List ℕ) (r : Result SchemeChoice Fault) → told r ≡ reading t → Accepts t r
answer_accepts t (Ok c) e = reading_is_written t (size_of c) (sym e)
answer_accepts t (Err f) e = λ s fit w. ok_not_err s f (sym (written_is_reading t s (w, fit)) ∙ sym e)
