-- Rows built once more from their own lines. Assumes nothing.
use Rattle.std.specs.Prelude.{ℕ, ◌+◌, Bool, true, false, cond, List, [], ◌∷◌, length, take, drop, Some, None, Ok, Err, Option, Result, ◌==◌, nat_le}
use Rattle.fault.specs.declared.Fault.{Fault}
use Rattle.program.specs.declared.rows.Row.{Row}
use Rattle.program.specs.declared.rows.Term.{Term}
use Rattle.program.specs.Building.{Tables, start, build, line_from}
use Rattle.flat_form.specs.Fitting.{fits_kind}

-- the row's terms begin where the last row's end, are there, and are those that its kind wants
abbrev pub fitted : List Term → ℕ → Row → Bool
fitted terms used r = cond (r.first == used) (cond (nat_le (r.first + r.count) (length terms)) (fits_kind r.kind (take r.count (drop r.first terms))) false) false

abbrev pub after : Result Tables Fault → (Tables → Option Tables) → Option Tables
after (Ok t) k = k t
after (Err f) k = None

-- the lines of the rows, put one after the other
abbrev pub again : List Term → Tables → ℕ → List Row → Option Tables
again terms s n [] = Some s
again terms s n (r ∷ rs) = cond (fitted terms (length s.terms) r) (after (build s (n + 1) (line_from terms r)) (λ t. again terms t (n + 1) rs)) None

-- the rows have the partners of others
abbrev pub same_partners : List Row → List Row → Bool
same_partners [] qs = true
same_partners (r ∷ rs) [] = false
same_partners (r ∷ rs) (q ∷ qs) = cond (r.partner == q.partner) (same_partners rs qs) false

abbrev pub ends_in : List Row → Option Tables → Option ℕ
ends_in rows None = None
ends_in rows (Some t) = cond (length t.stack == 0) (cond (same_partners rows t.rows) (Some (length t.terms)) None) None

-- how many of the terms the rows use; none where they are not the rows of a program
abbrev pub used_by : List Row → List Term → Option ℕ
used_by rows terms = ends_in rows (again terms start 0 rows)
