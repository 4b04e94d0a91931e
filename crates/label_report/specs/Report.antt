-- What is printed of an input that is a scheme, a level sheet and a site program, parted by lines `-`. Assumes nothing.
use Rattle.std.specs.Prelude.{ℕ, List, [], ◌∷◌, Ok, Err, Result}
use Rattle.fault.specs.declared.Fault.{Fault}
use Rattle.levels.specs.Scheme.{Levels}
use Rattle.sheet.specs.declared.LevelSheet.{LevelSheet}
use Rattle.label_check.specs.Checked.{checked}
use Rattle.print.specs.declared.Entry.TheVariants.{Word, Number}
use Rattle.print.specs.declared.Keyword.TheVariants as keyword
use Rattle.print.specs.Lines.{line_text, fault_line}
use Rattle.program.specs.Building.{Tables}
use Rattle.program.specs.Reading as program
use Rattle.scheme_report.specs.Report as parts

-- what the check answers: a refusal names the first failing row
abbrev pub answer_line : Result (Unit {0}) Fault → List ℕ
answer_line (Ok u) = line_text keyword.Labels (Word keyword.Pass ∷ [])
answer_line (Err f) = line_text keyword.Labels (Word keyword.Leak ∷ Number f.line ∷ [])

abbrev pub by_program : Levels → LevelSheet → Result Tables Fault → List ℕ
by_program L sheet (Ok t) = answer_line (checked L sheet t.rows t.terms)
by_program L sheet (Err f) = fault_line 3 f

abbrev pub program_report : Levels → LevelSheet → List ℕ → List ℕ
program_report L sheet text = by_program L sheet (program.reading text)

abbrev pub report : List ℕ → List ℕ
report input = parts.report program_report input
