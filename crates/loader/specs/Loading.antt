-- What loading answers, what the machine holds then, and what is accepted. Assumes nothing.
use Rattle.std.specs.Prelude.{◌≡◌, ℕ, true, cond, List, length, take, Some, None, Ok, Err, Option, Result}
use Rattle.fault.specs.declared.Fault.{Fault}
use Rattle.fault.specs.declared.Reason.TheVariants as reason
use Rattle.fault.specs.Faults.{unplaced}
use Rattle.language.specs.Block.{Tree}
use Rattle.program.specs.declared.rows.Row.{Row}
use Rattle.program.specs.declared.rows.Term.{Term}
use Rattle.program.specs.Laws.{Hold}
use Rattle.program.specs.Reading.{enough}
use Rattle.program.specs.Trees.{tree_of}
use Rattle.program.specs.Writing.{flat_rows, flat_terms, Within}
use Rattle.loader.specs.declared.loaded.Program.{Program}
use Rattle.flat_form.specs.Extents.{extents}

-- the rows and terms that a loaded program has
abbrev pub rows_of : Program → List Row
rows_of m = m.rows.now

abbrev pub terms_of : Program → List Term
terms_of m = m.terms.now

-- and the program that they are the flat form of
abbrev pub program_in : Program → Tree
program_in m = tree_of (rows_of m) (terms_of m)

abbrev pub loaded : Option (ℕ × ℕ) → Result (Unit {0}) Fault
loaded None = Err (unplaced reason.Nest)
loaded (Some e) = Ok tt

abbrev pub answer : List Row → List Term → Result (Unit {0}) Fault
answer rows terms = cond (enough rows terms) (loaded (extents rows terms)) (Err (unplaced reason.Slip))

-- the machine holds the filled part of the tables; a refusal alters nothing
abbrev pub Holds : List Row → List Term → Program → Result (Unit {0}) Fault → Program → Type 0
Holds rows terms before (Ok u) after = (extents rows terms ≡ Some (length (rows_of after), length (terms_of after))) × (rows_of after ≡ take (length (rows_of after)) rows) × (terms_of after ≡ take (length (terms_of after)) terms)
Holds rows terms before (Err f) after = after ≡ before

-- tables are accepted exactly if they hold the flat form of a program that keeps its limits: then the machine holds that program
abbrev pub Accepts : List Row → List Term → Result (Unit {0}) Fault → Program → Type 0
Accepts rows terms (Ok u) after = Within (program_in after) × Hold (program_in after) rows terms × (rows_of after ≡ flat_rows (program_in after)) × (terms_of after ≡ flat_terms (program_in after))
Accepts rows terms (Err f) after = enough rows terms ≡ true → (p : Tree) → Within p → Hold p rows terms → ⊥
