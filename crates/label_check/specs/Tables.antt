-- The label rule by a table of joins, and how a check goes on from a row. Assumes nothing.
use Rattle.std.specs.Prelude.{◌≡◌, ℕ, ◌+◌, ◌<◌, ◌≤◌, true, cond, List, ◌∷◌, drop, Some, None, Ok, Err, Option, Result, ◌==◌}
use Rattle.fault.specs.declared.Fault.{Fault}
use Rattle.levels.specs.Scheme.{Levels}
use Rattle.sheet.specs.declared.LevelSheet.{LevelSheet}
use Rattle.sheet.specs.Sheets.{has_sheet, checked}
use Rattle.language.specs.Expression.{Expr}
use Rattle.program.specs.declared.rows.Row.{Row}
use Rattle.program.specs.declared.rows.Term.{Term}
use Rattle.program.specs.Building.{lines_from}
use Rattle.typing.specs.Labels.{Labels, labels_of}
use Rattle.typing.specs.Rule.{raised}
use Rattle.label_check.specs.declared.check.Check.{Check}
use Rattle.label_check.specs.declared.check.Leak.{Leak}
use Rattle.label_check.specs.declared.table.Table.{Table}
use Rattle.label_check.specs.Joins.{entry}
use Rattle.label_check.specs.Rows.{leak}

-- a is at or below b if their join is b
abbrev pub levels_in : Table → Levels
levels_in t = record { count = 16; below = λ a b. (entry t.joins a b == b); lowest = t.lowest; join = entry t.joins }

abbrev pub labels_in : Table → Labels
labels_in t = labels_of (levels_in t) t.sheet

-- the table was copied from a scheme that has every level of its sheet
pub record Copied (L : Levels) (t : Table) : Type 0 where
  pub lowest : t.lowest ≡ L.lowest
  pub joins : (a b : ℕ) → a < L.count → b < L.count → entry t.joins a b ≡ L.join a b
  pub has : has_sheet L t.sheet ≡ true

-- with this sheet, or refused as the sheet is
abbrev pub Copies : Levels → LevelSheet → Result Table Fault → Type 0
Copies L sheet (Ok t) = Copied L t × (t.sheet ≡ sheet)
Copies L sheet (Err f) = checked L sheet ≡ Err f

-- the first row that breaks the rule, at or behind a row
abbrev pub onward : Labels → List Row → List Term → ℕ → List ℕ → ℕ → Option ℕ
onward labels rows terms x gs at = leak labels x gs at (lines_from (drop at rows) terms)

-- the row that a check found, if any
abbrev pub found : Result (Unit {0}) Leak → Option ℕ
found (Ok u) = None
found (Err l) = Some l.row

-- a row that breaks the rule was found, or the check goes on at a row
abbrev pub resume : Result ℕ Leak → (ℕ → Option ℕ) → Option ℕ
resume (Ok at) go = go at
resume (Err l) go = Some l.row

-- what row i tells its target by an expression, where pc is the program counter level
abbrev pub told : Check → Expr → ℕ → ℕ → ℕ → Result ℕ Leak
told c e pc target i =
    let labels = labels_in c.table.now in
    cond (labels.scheme.below (raised labels c.input.number pc e) target) (Ok (i + 1)) (Err (record { row = i }))

abbrev pub onward_in : Check → List ℕ → ℕ → Option ℕ
onward_in c = onward (labels_in c.table.now) c.program.rows.now c.program.terms.now c.input.number

-- r tells of what is left of a block, from a row on: the first row that breaks the rule, or where the check goes on on the grounds around it, whatever they are
abbrev pub ChecksBlock : Check → ℕ → ℕ → Result ℕ Leak → Type 0
ChecksBlock c pc from r = (gs : List ℕ) → onward_in c (pc ∷ gs) from ≡ resume r (onward_in c gs)

-- and of a row, with the block that it opens
abbrev pub ChecksRow : Check → ℕ → ℕ → Result ℕ Leak → Type 0
ChecksRow c pc i r = (gs : List ℕ) → onward_in c (pc ∷ gs) i ≡ resume r (onward_in c (pc ∷ gs))

-- the check goes on no earlier than a row, and finds none behind the end
abbrev pub Onward : ℕ → ℕ → Result ℕ Leak → Type 0
Onward from end (Ok at) = (from ≤ at) × (at ≤ end)
Onward from end (Err l) = l.row < end

-- a row before the end, if any
abbrev pub Among : ℕ → Result (Unit {0}) Leak → Type 0
Among end (Ok u) = Unit {0}
Among end (Err l) = l.row < end
