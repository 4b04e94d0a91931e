-- Reading a level sheet inverts writing it. Assumes nothing.
use Rattle.std.proofs.Common.{◌≡◌, ℕ, ◌≤◌, List, [], length, Ok, Err, Result, sym, refl, ap, ◌∙◌, subst, arith}
use Rattle.fault.specs.declared.Fault.{Fault}
use Rattle.fault.proofs.Then.{ok_not_err}
use Rattle.levels.specs.Scheme.{Levels}
use Rattle.sheet.specs.declared.LevelSheet.{LevelSheet}
use Rattle.text.proofs.Built.{text_read_is_written, written_text_is_read}
use Rattle.text.proofs.Printing.{fed_lines_are_short}
use Rattle.sheet_reader.specs.declared.line.SheetLine.{SheetLine}
use Rattle.sheet_reader.specs.Reading.{parse, add, reading, answer, sheet_after}
use Rattle.sheet_reader.specs.Writing.{line_bytes, written, Fit, SheetFor, ReadingInvertsWriting, Accepts}
use Rattle.sheet_reader.proofs.Adding.{all_new, built_follows, following_is_built}
use Rattle.sheet_reader.proofs.Lines.{line_read_is_writing, writing_is_read, line_is_clean, line_is_short}
use Rattle.sheet_reader.proofs.Flags.{once_is_few}

module _ (L : Levels) where
  sheet_is_short : (ls : List SheetLine) → SheetFor L ls → length (written ls) ≤ 8192
  sheet_is_short ls s =
      let a = fed_lines_are_short line_bytes Fit line_is_short ls s.fit in
      let few = once_is_few ls s.fit s.once in
      omega arith

  reading_is_written : (t : List ℕ) (ls : List SheetLine) → reading L t ≡ Ok ls → (t ≡ written ls) × SheetFor L ls
  reading_is_written t ls e =
      let a = text_read_is_written parse (add L) line_bytes Fit line_read_is_writing writing_is_read [] ls t e in
      let b = built_follows L [] ls 0 a.0 a.3 in
      (a.1 ∙ ap written b.0, subst (λ (x : List SheetLine). SheetFor L x) b.0 (record { fit = a.2; once = b.1.once; levels = b.1.levels }))

  written_is_reading : (t : List ℕ) (ls : List SheetLine) → (t ≡ written ls) × SheetFor L ls → reading L t ≡ Ok ls
  written_is_reading t ls h =
      let s = h.1 in
      ap (reading L) h.0
      ∙ written_text_is_read parse (add L) line_bytes Fit line_read_is_writing writing_is_read line_is_clean [] ls ls s.fit (sheet_is_short ls s)
      (following_is_built L [] 0 ls (record { new = all_new ls; once = s.once; levels = s.levels }))

  by_reading : (t : List ℕ) (x : Result (List SheetLine) Fault) → reading L t ≡ x → Accepts L t (answer x) (sheet_after L.lowest x)
  by_reading t (Ok ls) e = let h = reading_is_written t ls e in (ls, h.1, h.0, refl)
  by_reading t (Err f) e = λ ls sheet w. ok_not_err ls f (sym (written_is_reading t ls (w, sheet)) ∙ e)

  pub answer_accepts : (t : List ℕ) (r : Result (Unit {0}) Fault) (after : LevelSheet) → r ≡ answer (reading L t) → after ≡ sheet_after L.lowest (reading L t) → Accepts L t r after
  answer_accepts t r after e f =
      subst (λ (x : Result (Unit {0}) Fault). Accepts L t x after) (sym e)
      (subst (λ (x : LevelSheet). Accepts L t (answer (reading L t)) x) (sym f) (by_reading t (reading L t) refl))

pub reading_inverts_writing : ReadingInvertsWriting
reading_inverts_writing L t ls = (reading_is_written L t ls, written_is_reading L t ls)
