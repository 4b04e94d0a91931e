-- What the text of a site program is read as, and what a call leaves in the lent tables. Assumes nothing.
use Rattle.std.specs.Prelude.{◌≡◌, ℕ, ◌+◌, ◌-◌, Bool, cond, ◌&&◌, List, [], ◌∷◌, ◌++◌, length, replicate, Ok, Err, Result, nat_le}
use Rattle.fault.specs.declared.Fault.{Fault}
use Rattle.fault.specs.declared.Reason.TheVariants as reason
use Rattle.fault.specs.Faults.{unplaced, then}
use Rattle.text.specs.Building.{two_steps}
use Rattle.text.specs.Lines.{text_limit}
use Rattle.text.specs.Pieces.{pieces}
use Rattle.text.specs.Places.{placed}
use Rattle.text.specs.Texts.{strict, on_lines}
use Rattle.program.specs.declared.rows.Row.{Row}
use Rattle.program.specs.declared.rows.Term.{Term}
use Rattle.program.specs.Lines.{parse}
use Rattle.program.specs.Building.{row_limit, term_limit, blank_row, blank_term, Tables, start, build}

-- a handler that is open at the end is refused at the line after the last
abbrev pub open_end : Tables → Fault
open_end s = placed reason.Nest (length s.rows + 1) 0

abbrev pub ended : Tables → List ℕ → Result Tables Fault
ended s [] = Ok s
ended s (o ∷ os) = Err (open_end s)

-- the lines of a text, one after the other, and then its end
abbrev pub tables_in : List ℕ → Result Tables Fault
tables_in t = then (on_lines strict (two_steps parse build) start 0 (pieces 10 t)) (λ s. ended s s.stack)

abbrev pub reading : List ℕ → Result Tables Fault
reading t = cond (nat_le (length t) text_limit) (tables_in t) (Err (unplaced reason.Overlong))

-- n lent places that hold xs, and blanks behind it
abbrev pub padded : {X : Type 0} → X → ℕ → List X → List X
padded blank n xs = xs ++ replicate (n - length xs) blank

abbrev pub counted : Result Tables Fault → Result ℕ Fault
counted (Ok t) = Ok (length t.rows)
counted (Err f) = Err f

-- n lent rows or terms that hold what was read; a refusal leaves blanks alone
abbrev pub rows_left : ℕ → Result Tables Fault → List Row
rows_left n (Ok t) = padded blank_row n t.rows
rows_left n (Err f) = replicate n blank_row

abbrev pub terms_left : ℕ → Result Tables Fault → List Term
terms_left n (Ok t) = padded blank_term n t.terms
terms_left n (Err f) = replicate n blank_term

-- enough rows and terms are lent
abbrev pub enough : List Row → List Term → Bool
enough rows terms = nat_le row_limit (length rows) && nat_le term_limit (length terms)

-- the answer, and the lent tables afterwards; where too few are lent, they are as before
abbrev pub answer : List ℕ → List Row → List Term → Result ℕ Fault
answer t rows terms = cond (enough rows terms) (counted (reading t)) (Err (unplaced reason.Slip))

abbrev pub rows_after : List ℕ → List Row → List Term → List Row
rows_after t rows terms = cond (enough rows terms) (rows_left (length rows) (reading t)) rows

abbrev pub terms_after : List ℕ → List Row → List Term → List Term
terms_after t rows terms = cond (enough rows terms) (terms_left (length terms) (reading t)) terms

-- the answer r and the lent tables that what was read leaves; a refusal leaves any
abbrev pub Filled : Result Tables Fault → Result ℕ Fault → List Row → List Term → Type 0
Filled (Ok t) r rows terms = (r ≡ Ok (length t.rows)) × (rows ≡ padded blank_row (length rows) t.rows) × (terms ≡ padded blank_term (length terms) t.terms)
Filled (Err f) r rows terms = r ≡ Err f
