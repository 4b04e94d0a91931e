-- What the interpreter asks of tables: expressions are whole, and partners are where blocks end. Assumes nothing.
use Rattle.std.specs.Prelude.{◌≡◌, ℕ, ◌+◌, ◌<◌, ◌≤◌, ◌⊎◌, List, [], ◌∷◌, length, get_or, slice_index_or}
use Rattle.language.specs.Block.{done}
use Rattle.program.specs.declared.rows.Kind.{Kind}
use Rattle.program.specs.declared.rows.Kind.TheVariants as kind
use Rattle.program.specs.declared.rows.Row.{Row}
use Rattle.program.specs.declared.rows.Term.{Term}
use Rattle.program.specs.Building.{blank_row}
use Rattle.program.specs.Trees.{expressions, expression_of, whole, around}
use Rattle.program.specs.Writing.{InRange}
use Rattle.interpreter.specs.Places.{terms_at, frames_at, second_of}

-- terms make one expression with its numbers in range
pub record OneExpression (terms : List Term) : Type 0 where
  pub one : expressions terms ≡ expression_of terms ∷ []
  pub ranged : InRange (expression_of terms)

-- the terms of a row are there, and make one expression with its numbers in range
pub record Expressed (terms : List Term) (r : Row) : Type 0 where
  pub there : r.first + r.count ≤ length terms
  pub whole : OneExpression (terms_at terms r)

-- row p closes the block that begins behind row i
pub record Closes (rows : List Row) (terms : List Term) (i p : ℕ) : Type 0 where
  pub after : i < p
  pub within : p < length rows
  pub is_close : (get_or rows p blank_row).kind ≡ kind.Close
  pub goes_on : frames_at rows terms (p + 1) ≡ around (frames_at rows terms (i + 1))

-- row p closes the branch that row i opens, which has no second part
pub record ClosesAlone (rows : List Row) (terms : List Term) (i p : ℕ) : Type 0 where
  pub closes : Closes rows terms i p
  pub alone : second_of (frames_at rows terms (i + 1)) ≡ done

-- row p begins the second part of the branch that row i opens, and row q closes it
pub record Parts (rows : List Row) (terms : List Term) (i p q : ℕ) : Type 0 where
  pub after : i < p
  pub is_else : (get_or rows p blank_row).kind ≡ kind.Else
  pub second : frames_at rows terms (p + 1) ≡ whole (second_of (frames_at rows terms (i + 1))) ∷ around (frames_at rows terms (i + 1))
  pub closes : Closes rows terms p q

-- row i, a row r
abbrev pub SoundRow : List Row → List Term → ℕ → Row → Kind → Type 0
SoundRow rows terms i r kind.Skip = Unit {0}
SoundRow rows terms i r (kind.Handler c) = (length (frames_at rows terms (i + 1)) ≡ 1) × Closes rows terms i r.partner
SoundRow rows terms i r (kind.Assign v) = (v < 16) × Expressed terms r
SoundRow rows terms i r (kind.Output c) = (16 ≤ c) × (c < 32) × Expressed terms r
SoundRow rows terms i r kind.If =
    Expressed terms r × (ClosesAlone rows terms i r.partner ⊎ Parts rows terms i r.partner (get_or rows r.partner blank_row).partner)
SoundRow rows terms i r kind.While = Expressed terms r × Closes rows terms i r.partner
SoundRow rows terms i r kind.Else = Unit {0}
SoundRow rows terms i r kind.Close = Unit {0}

abbrev pub Sound : List Row → List Term → Type 0
Sound rows terms = (i : ℕ) → i < length rows → SoundRow rows terms i (slice_index_or rows i blank_row) (get_or rows i blank_row).kind
