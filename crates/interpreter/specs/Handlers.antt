-- The row that opens a channel's handler, among rows. Assumes nothing.
use Rattle.std.specs.Prelude.{◌≡◌, ℕ, ◌+◌, ◌<◌, List, length, Some, None, Option, slice_index_or}
use Rattle.language.specs.Block.{Block, done, ◌⨟◌, handler_of}
use Rattle.program.specs.declared.rows.Kind.TheVariants as kind
use Rattle.program.specs.declared.rows.Row.{Row}
use Rattle.program.specs.declared.rows.Term.{Term}
use Rattle.program.specs.Building.{blank_row}
use Rattle.program.specs.Trees.{here, tree_of}
use Rattle.interpreter.specs.Places.{frames_at}

-- row i opens the handler of channel c, whose block stands behind it
pub record BeginsAt (rows : List Row) (c i : ℕ) : Type 0 where
  pub within : i < length rows
  pub is_handler : (slice_index_or rows i blank_row).kind ≡ kind.Handler c
  pub body : (terms : List Term) → handler_of (tree_of rows terms) c ≡ here (frames_at rows terms (i + 1))

-- none: the program has no handler of the channel
abbrev pub Begins : List Row → ℕ → Option ℕ → Type 0
Begins rows c None = (terms : List Term) → handler_of (tree_of rows terms) c ≡ done
Begins rows c (Some i) = BeginsAt rows c i

-- what the handler of channel c runs, and then k
abbrev pub handled_at : List Row → List Term → ℕ → Block → Block
handled_at rows terms c k = handler_of (tree_of rows terms) c ⨟ k
