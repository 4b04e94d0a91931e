-- What one more row leaves. Assumes nothing.
use Rattle.std.specs.Prelude.{◌≡◌, ℕ, ◌+◌, List, length, take, Some, None, Ok, Err, Option, Result}
use Rattle.fault.specs.declared.Fault.{Fault}
use Rattle.program.specs.declared.nest.Misplaced.{Misplaced}
use Rattle.program.specs.declared.rows.Row.{Row}
use Rattle.program.specs.declared.rows.Term.{Term}
use Rattle.program.specs.Building.{Tables, tables, build}
use Rattle.program.specs.Open.{Open}

-- the answer that a row among others gets, with the rows and the open ones that it leaves; where it is misplaced it is refused, and leaves any
abbrev pub Nests : Option (List Row × List ℕ) → Result (Unit {0}) Misplaced → List Row → List ℕ → Type 0
Nests None (Ok u) rows stack = ⊥
Nests None (Err e) rows stack = Unit {0}
Nests (Some p) (Ok u) rows stack = (rows ≡ p.0) × (stack ≡ p.1)
Nests (Some p) (Err e) rows stack = ⊥

abbrev pub Adds : Result Tables Fault → Result (Unit {0}) Fault → List Row → List ℕ → Type 0
Adds (Ok t) r rows stack = (r ≡ Ok tt) × (rows ≡ t.rows) × (stack ≡ t.stack)
Adds (Err f) r rows stack = r ≡ Err f

-- line n, of some terms, put behind the first rows and some terms; only how many they are counts
abbrev pub Builds : List Row → Open → ℕ → Row → Result (Unit {0}) Fault → List Row → Open → Type 0
Builds rows before n row r rows' after =
    (ts us : List Term) → length ts ≡ row.first → length us ≡ row.count
    → Adds (build (tables (take before.count rows) ts before.stack) n (row.kind, us)) r (take (before.count + 1) rows') after.stack
