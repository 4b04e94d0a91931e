-- What is printed of an input that is a scheme, a level sheet and a third part, parted by lines `-`. Assumes nothing.
use Rattle.std.specs.Prelude.{ℕ, true, cond, List, Some, None, Ok, Err, Option, Result}
use Rattle.fault.specs.declared.Fault.{Fault}
use Rattle.fault.specs.declared.Reason.TheVariants as reason
use Rattle.fault.specs.Faults.{unplaced}
use Rattle.levels.specs.Scheme.{Levels}
use Rattle.parts.specs.Parts.{before_mark, after_mark, is_one_line}
use Rattle.print.specs.Lines.{fault_line}
use Rattle.scheme_reader.specs.Reading.{SizedScheme, levels_of}
use Rattle.scheme_reader.specs.Reading as scheme
use Rattle.sheet.specs.declared.LevelSheet.{LevelSheet}
use Rattle.sheet_reader.specs.declared.line.SheetLine.{SheetLine}
use Rattle.sheet_reader.specs.Naming.{sheet_of}
use Rattle.sheet_reader.specs.Reading as sheet

-- an input that is not in parts, or whose first part is not one line, is refused as a whole
abbrev pub not_in_parts : List ℕ
not_in_parts = fault_line 0 (unplaced reason.Field)

-- tell is what is printed of a third part, under a scheme and a sheet
module _ (tell : Levels → LevelSheet → List ℕ → List ℕ) where
  abbrev pub by_sheet : Levels → Result (List SheetLine) Fault → List ℕ → List ℕ
  by_sheet L (Ok ls) part = tell L (sheet_of L.lowest ls) part
  by_sheet L (Err f) part = fault_line 2 f

  -- the sheet and the third part under a scheme
  abbrev pub under : Levels → List ℕ → List ℕ → List ℕ
  under L text part = by_sheet L (sheet.reading L text) part

  abbrev pub by_scheme : Result SizedScheme Fault → List ℕ → List ℕ → List ℕ
  by_scheme (Ok s) text part = under (levels_of s) text part
  by_scheme (Err f) text part = fault_line 1 f

  abbrev pub by_part : List ℕ → List ℕ → Option (List ℕ) → List ℕ
  by_part line text None = not_in_parts
  by_part line text (Some part) = cond (is_one_line line) (by_scheme (scheme.reading line) text part) not_in_parts

  abbrev pub by_rest : List ℕ → Option (List ℕ) → List ℕ
  by_rest line None = not_in_parts
  by_rest line (Some rest) = by_part line (before_mark true rest) (after_mark true rest)

  abbrev pub report : List ℕ → List ℕ
  report input = by_rest (before_mark true input) (after_mark true input)
