-- What the label check answers. Assumes nothing.
use Rattle.std.specs.Prelude.{◌≡◌, ℕ, ◌+◌, true, List, Some, None, Ok, Err, Option, Result}
use Rattle.fault.specs.declared.Fault.{Fault}
use Rattle.fault.specs.declared.Reason.TheVariants as reason
use Rattle.fault.specs.Faults.{then}
use Rattle.levels.specs.Scheme.{Levels}
use Rattle.sheet.specs.declared.LevelSheet.{LevelSheet}
use Rattle.sheet.specs.Sheets as sheets
use Rattle.language.specs.Block.{Tree}
use Rattle.program.specs.declared.rows.Row.{Row}
use Rattle.program.specs.declared.rows.Term.{Term}
use Rattle.program.specs.Building.{lines_from}
use Rattle.typing.specs.Labels.{labels_of}
use Rattle.typing.specs.Derivation.{Typed}
use Rattle.label_check.specs.Rows.{first_leak}

-- a refusal has the row's number, counted from 1, for its line
abbrev pub answer : Option ℕ → Result (Unit {0}) Fault
answer None = Ok tt
answer (Some at) = Err (record { reason = reason.Leak; line = at + 1; field = 0 })

-- refused where the scheme lacks a level of the sheet, and at the first row that breaks the rule
abbrev pub checked : Levels → LevelSheet → List Row → List Term → Result (Unit {0}) Fault
checked L sheet rows terms = then (sheets.checked L sheet) (λ _. answer (first_leak (labels_of L sheet) (lines_from rows terms)))

-- where the scheme has the levels of the sheet, the program is accepted exactly if it has a typing derivation
pub record Exact (L : Levels) (sheet : LevelSheet) (p : Tree) (r : Result (Unit {0}) Fault) : Type 0 where
  pub accepted_is_typed : sheets.has_sheet L sheet ≡ true → r ≡ Ok tt → Typed (labels_of L sheet) p
  pub typed_is_accepted : sheets.has_sheet L sheet ≡ true → Typed (labels_of L sheet) p → r ≡ Ok tt
