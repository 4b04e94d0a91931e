-- How far lent tables are filled: blanks follow the rows and terms of a program. Assumes nothing.
use Rattle.std.specs.Prelude.{ℕ, zero, suc, Bool, true, false, cond, ◌&&◌, List, [], ◌∷◌, length, take, drop, Some, None, Option, ◌==◌, nat_le}
use Rattle.std.specs.List.{list_all}
use Rattle.program.specs.declared.rows.Kind.{Kind}
use Rattle.program.specs.declared.rows.Kind.TheVariants.{Skip, Handler, Assign, Output, If, While, Else, Close}
use Rattle.program.specs.declared.rows.Row.{Row}
use Rattle.program.specs.declared.rows.Term.{Term}
use Rattle.program.specs.declared.rows.Term.TheVariants.{Input, Constant, Variable, Operator}
use Rattle.program.specs.Building.{row_limit}
use Rattle.flat_form.specs.Rebuilding.{used_by}

abbrev pub is_skip : Kind → Bool
is_skip Skip = true
is_skip (Handler c) = false
is_skip (Assign v) = false
is_skip (Output c) = false
is_skip If = false
is_skip While = false
is_skip Else = false
is_skip Close = false

abbrev pub is_blank : Row → Bool
is_blank r = is_skip r.kind && (r.first == 0 && (r.count == 0 && r.partner == 0))

-- one row before others of which n are filled
abbrev pub filled : Bool → ℕ → ℕ
filled blank zero = cond blank 0 1
filled blank (suc n) = suc (suc n)

-- how many rows there are up to the last that is not blank
abbrev pub extent : List Row → ℕ
extent [] = 0
extent (r ∷ rs) = filled (is_blank r) (extent rs)

abbrev pub is_input : Term → Bool
is_input Input = true
is_input (Constant n) = false
is_input (Variable v) = false
is_input (Operator o) = false

abbrev pub all_blank : List Term → Bool
all_blank ts = list_all is_input ts

abbrev pub with_blanks : ℕ → List Term → Option ℕ → Option (ℕ × ℕ)
with_blanks n terms None = None
with_blanks n terms (Some m) = cond (all_blank (drop m terms)) (Some (n, m)) None

-- how many rows and terms of the tables are a program's; none where they are not the flat form of one, and blanks behind it
abbrev pub extents : List Row → List Term → Option (ℕ × ℕ)
extents rows terms = cond (nat_le (extent rows) row_limit) (with_blanks (extent rows) terms (used_by (take (extent rows) rows) terms)) None

abbrev pub is_all : ℕ → Option ℕ → Bool
is_all n None = false
is_all n (Some m) = m == n

-- the tables, with nothing behind them, are the flat form of a program
abbrev pub is_program : List Row → List Term → Bool
is_program rows terms = is_all (length terms) (used_by rows terms)
