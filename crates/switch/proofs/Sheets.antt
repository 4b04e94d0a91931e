-- Reading a sheet inverts writing it. Assumes nothing.
use Rattle.std.proofs.Common.{◌≡◌, ℕ, ◌+◌, ◌-◌, ◌<◌, ◌≤◌, Bool, true, false, cond, leb, List, [], ◌∷◌, ◌++◌, length, take, replicate, Ok, Err, Result, sym, refl, ap, ◌∙◌, subst, append_assoc, append-nil, arith}
use Rattle.std.proofs.lemmas.List.{length_push, take_at}
use Rattle.std.proofs.lemmas.Bool.{leb-true, leb-false, lt-leb}
use Rattle.std.specs.List.{AllByRecursion}
use Rattle.fault.specs.declared.Fault.{Fault}
use Rattle.fault.specs.declared.Reason.TheVariants as reason
use Rattle.fault.specs.Faults.{unplaced}
use Rattle.text.specs.Building.{Built}
use Rattle.text.specs.Places.{full_at}
use Rattle.text.proofs.Built.{text_read_is_written, written_text_is_read}
use Rattle.text.proofs.Printing.{fed_lines_are_short}
use Rattle.fault.proofs.Then.{ok_not_err}
use Rattle.switch.specs.declared.line.SwitchLine.{SwitchLine}
use Rattle.switch.specs.Reading.{blank, parse, keep, reading, counted, padded, answer, lines_after}
use Rattle.switch.specs.Writing.{line_bytes, written, Fit, Sheet, ReadingInvertsWriting, Accepts}
use Rattle.switch.proofs.Transitions.{line_read_is_writing, writing_is_read, line_is_clean, line_is_short}

-- lines are kept in order, up to 64
kept : (ls us : List SwitchLine) (n : ℕ) (l : SwitchLine) (b : Bool) → leb 64 (length ls) ≡ b → cond b (Err (full_at n)) (Ok (ls ++ l ∷ [])) ≡ Ok us → (length ls < 64) × (ls ++ l ∷ [] ≡ us)
kept ls us n l true s e = absurd cc
kept ls us n l false s e = (leb-false 64 (length ls) s, cc)

built_is_kept : (acc us : List SwitchLine) (n : ℕ) (ls : List SwitchLine) → length acc ≤ 64 → Built keep acc n ls us → (acc ++ ls ≡ us) × (length us ≤ 64)
built_is_kept acc us n [] h e = (append-nil acc ∙ e, subst (λ (x : List SwitchLine). length x ≤ 64) e h)
built_is_kept acc us n (l ∷ ls) h e =
    let k = kept acc e.0 (n + 1) l (leb 64 (length acc)) refl e.1 in
    let long = length_push acc l in
    let few : length e.0 ≤ 64 = subst (λ (x : List SwitchLine). length x ≤ 64) k.1 (let lt = k.0 in omega arith) in
    let r = built_is_kept e.0 us (n + 1) ls few e.2 in
    (sym (append_assoc acc (l ∷ []) ls) ∙ ap (λ x. x ++ ls) k.1 ∙ r.0, r.1)

kept_is_built : (acc : List SwitchLine) (n : ℕ) (ls : List SwitchLine) → length acc + length ls ≤ 64 → Built keep acc n ls (acc ++ ls)
kept_is_built acc n [] h = sym (append-nil acc)
kept_is_built acc n (l ∷ ls) h =
    let long = length_push acc l in (
      acc ++ l ∷ [],
      ap (λ b. cond b (Err (full_at (n + 1))) (Ok (acc ++ l ∷ []))) (lt-leb 64 (length acc) (omega arith)),
      subst (λ (x : List SwitchLine). Built keep (acc ++ l ∷ []) (n + 1) ls x) (append_assoc acc (l ∷ []) ls) (kept_is_built (acc ++ l ∷ []) (n + 1) ls (omega arith)),
    )

sheet_is_short : (ls : List SwitchLine) → Sheet ls → length (written ls) ≤ 8192
sheet_is_short ls s = let a = fed_lines_are_short line_bytes Fit line_is_short ls s.1 in omega (arith, s.0)

reading_is_written : (t : List ℕ) (ls : List SwitchLine) → reading t ≡ Ok ls → (t ≡ written ls) × Sheet ls
reading_is_written t ls e =
    let a = text_read_is_written parse keep line_bytes Fit line_read_is_writing writing_is_read [] ls t e in
    let k = built_is_kept [] ls 0 a.0 (omega arith) a.3 in
    (a.1 ∙ ap written k.0, (k.1, subst (λ (x : List SwitchLine). AllByRecursion Fit x) k.0 a.2))

written_is_reading : (t : List ℕ) (ls : List SwitchLine) → (t ≡ written ls) × Sheet ls → reading t ≡ Ok ls
written_is_reading t ls h =
    ap reading h.0
    ∙ written_text_is_read parse keep line_bytes Fit line_read_is_writing writing_is_read line_is_clean [] ls ls h.1.1 (sheet_is_short ls h.1) (kept_is_built [] 0 ls (omega (arith, h.1.0)))

pub reading_inverts_writing : ReadingInvertsWriting
reading_inverts_writing t ls = (reading_is_written t ls, written_is_reading t ls)

by_reading : (t : List ℕ) (before : List SwitchLine) (x : Result (List SwitchLine) Fault) (b : Bool) → reading t ≡ x → leb 64 (length before) ≡ b → Accepts t before (cond b (counted x) (Err (unplaced reason.Slip))) (cond b (padded (length before) x) before)
by_reading t before (Ok ls) true e s =
    let h = reading_is_written t ls e in
    let q : take (length ls) (ls ++ replicate (length before - length ls) blank) ≡ ls = take_at ls _ (length ls) refl in (
      leb-true 64 (length before) s,
      h.1.0,
      subst (λ (x : List SwitchLine). Sheet x) (sym q) h.1,
      subst (λ (x : List SwitchLine). t ≡ written x) (sym q) h.0,
    )
by_reading t before (Err f) true e s = λ _ ls sheet w. ok_not_err ls f (sym (written_is_reading t ls (w, sheet)) ∙ e)
by_reading t before x false e s = λ room. let lt = leb-false 64 (length before) s in absurd (omega arith)

pub answer_accepts : (t : List ℕ) (before : List SwitchLine) (r : Result ℕ Fault) (after : List SwitchLine) → r ≡ answer (length before) t → after ≡ lines_after t before → Accepts t before r after
answer_accepts t before r after e f =
    subst (λ (x : Result ℕ Fault). Accepts t before x after) (sym e)
    (subst (λ (x : List SwitchLine). Accepts t before (answer (length before) t) x) (sym f) (by_reading t before (reading t) (leb 64 (length before)) refl refl))
