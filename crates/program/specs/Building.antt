-- How the lines of a program become rows and terms, one after the other. Assumes nothing.
use Rattle.std.specs.Prelude.{ℕ, ◌+◌, Bool, true, false, cond, List, [], ◌∷◌, ◌++◌, map, length, take, drop, Some, None, Ok, Err, Option, Result, ◌==◌, nat_le, slice_index_or, slice_set}
use Rattle.std.specs.List.{list_any}
use Rattle.fault.specs.declared.Fault.{Fault}
use Rattle.fault.specs.Faults.{then}
use Rattle.text.specs.Places.{nest_at, twice_at, full_at}
use Rattle.text.specs.Reading.{or_refused}
use Rattle.program.specs.declared.rows.Kind.{Kind}
use Rattle.program.specs.declared.rows.Kind.TheVariants.{Skip, Handler, Assign, Output, If, While, Else, Close}
use Rattle.program.specs.declared.rows.Row.{Row}
use Rattle.program.specs.declared.rows.Term.{Term}
use Rattle.program.specs.declared.rows.Term.TheVariants.{Input}
use Rattle.program.specs.Lines.{Line}

-- the most rows and terms of a program
abbrev pub row_limit : ℕ
row_limit = 128

abbrev pub term_limit : ℕ
term_limit = 512

-- what a lent place holds where nothing was read into it
abbrev pub blank_row : Row
blank_row = record { kind = Skip; first = 0; count = 0; partner = 0 }

abbrev pub blank_term : Term
blank_term = Input

-- what is built so far, with the numbers of the open rows, the innermost first and the handler last
pub record Tables : Type 0 where
  pub rows : List Row
  pub terms : List Term
  pub stack : List ℕ

abbrev pub tables : List Row → List Term → List ℕ → Tables
tables rows terms stack = record { rows = rows; terms = terms; stack = stack }

-- before the first line
abbrev pub start : Tables
start = tables [] [] []

-- row i gets the partner j
abbrev pub linked_at : List Row → ℕ → ℕ → List Row
linked_at rows i j =
    slice_set rows i (record { kind = (slice_index_or rows i blank_row).kind; first = (slice_index_or rows i blank_row).first; count = (slice_index_or rows i blank_row).count; partner = j })

abbrev pub is_if : Kind → Bool
is_if Skip = false
is_if (Handler c) = false
is_if (Assign v) = false
is_if (Output c) = false
is_if If = true
is_if While = false
is_if Else = false
is_if Close = false

-- row j among rows that leave some open: the rows with a partner written, and the open ones afterwards; none where row j is misplaced
abbrev pub inside : List Row → List ℕ → Option (List Row × List ℕ)
inside rows [] = None
inside rows (o ∷ os) = Some (rows, o ∷ os)

abbrev pub begins : List Row → List ℕ → ℕ → Option (List Row × List ℕ)
begins rows [] j = Some (rows, j ∷ [])
begins rows (o ∷ os) j = None

abbrev pub opens : List Row → List ℕ → ℕ → Option (List Row × List ℕ)
opens rows [] j = None
opens rows (o ∷ os) j = cond (nat_le 9 (length (o ∷ os))) None (Some (rows, j ∷ o ∷ os))

abbrev pub turns : List Row → List ℕ → ℕ → Option (List Row × List ℕ)
turns rows [] j = None
turns rows (o ∷ os) j = cond (is_if (slice_index_or rows o blank_row).kind) (Some (linked_at rows o j, j ∷ os)) None

abbrev pub closes : List Row → List ℕ → ℕ → Option (List Row × List ℕ)
closes rows [] j = None
closes rows (o ∷ os) j = Some (linked_at rows o j, os)

abbrev pub nested : List Row → List ℕ → ℕ → Kind → Option (List Row × List ℕ)
nested rows stack j Skip = inside rows stack
nested rows stack j (Handler c) = begins rows stack j
nested rows stack j (Assign v) = inside rows stack
nested rows stack j (Output c) = inside rows stack
nested rows stack j If = opens rows stack j
nested rows stack j While = opens rows stack j
nested rows stack j Else = turns rows stack j
nested rows stack j Close = closes rows stack j

abbrev pub is_handler_of : ℕ → Kind → Bool
is_handler_of c Skip = false
is_handler_of c (Handler d) = c == d
is_handler_of c (Assign v) = false
is_handler_of c (Output d) = false
is_handler_of c If = false
is_handler_of c While = false
is_handler_of c Else = false
is_handler_of c Close = false

abbrev pub has_handler : ℕ → List Row → Bool
has_handler c rows = list_any (λ r. is_handler_of c r.kind) rows

-- a handler of a channel that has one already
abbrev pub is_twice : Kind → List Row → Bool
is_twice Skip rows = false
is_twice (Handler c) rows = has_handler c rows
is_twice (Assign v) rows = false
is_twice (Output c) rows = false
is_twice If rows = false
is_twice While rows = false
is_twice Else rows = false
is_twice Close rows = false

-- one more row, and its terms
abbrev pub has_room : Tables → List Term → Bool
has_room s ts = cond (nat_le row_limit (length s.rows)) false (nat_le (length s.terms + length ts) term_limit)

abbrev pub added : Tables → Line → List Row × List ℕ → Tables
added s l p =
    tables (p.0 ++ record { kind = l.0; first = length s.terms; count = length l.1; partner = 0 } ∷ []) (s.terms ++ l.1) p.1

-- line n put behind the rows before it: refused as misplaced, twice or full
abbrev pub build : Tables → ℕ → Line → Result Tables Fault
build s n l =
    then (or_refused (nest_at n) (nested s.rows s.stack (length s.rows) l.0)) (λ p.
    cond (is_twice l.0 s.rows) (Err (twice_at n))
    (cond (has_room s l.1) (Ok (added s l p)) (Err (full_at n))))

-- the lines that rows and terms stand for
abbrev pub line_from : List Term → Row → Line
line_from terms r = (r.kind, take r.count (drop r.first terms))

abbrev pub lines_from : List Row → List Term → List Line
lines_from rows terms = map (line_from terms) rows
