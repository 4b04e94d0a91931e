-- How far lent tables are filled while lines are read. Assumes nothing.
use Rattle.std.specs.Prelude.{◌≡◌, List, take, Ok, Err, Result}
use Rattle.fault.specs.declared.Fault.{Fault}
use Rattle.program.specs.declared.reader.Progress.{Progress}
use Rattle.program.specs.declared.rows.Row.{Row}
use Rattle.program.specs.declared.rows.Term.{Term}
use Rattle.program.specs.Building.{Tables, tables}

-- what lent tables hold
abbrev pub so_far : Progress → List Row → List Term → Tables
so_far p rows terms = tables (take p.nesting.count rows) (take p.used terms) p.nesting.stack

-- the answer r and what is held after one more line; a refusal leaves any
abbrev pub GoesOn : Result Tables Fault → Result (Unit {0}) Fault → Tables → Type 0
GoesOn (Ok t) r held = (r ≡ Ok tt) × (held ≡ t)
GoesOn (Err f) r held = r ≡ Err f
