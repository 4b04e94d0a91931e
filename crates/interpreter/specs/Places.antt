-- What stands at a row of tables: its expression, its command, and the blocks that are open there. Assumes nothing.
use Rattle.std.specs.Prelude.{ℕ, ◌+◌, Bool, true, false, List, [], ◌∷◌, get_or, take, drop, slice_index_or}
use Rattle.language.specs.Block.{Block, done, skip, assign, output, branch, repeat, ◌⨟◌}
use Rattle.language.specs.Expression.{Expr}
use Rattle.program.specs.declared.rows.Kind.{Kind}
use Rattle.program.specs.declared.rows.Kind.TheVariants as kind
use Rattle.program.specs.declared.rows.Row.{Row}
use Rattle.program.specs.declared.rows.Term.{Term}
use Rattle.program.specs.Building.{blank_row, lines_from}
use Rattle.program.specs.Trees.{expression_of, Frame, whole, parted, frames, here}

-- the terms of a row
abbrev pub terms_at : List Term → Row → List Term
terms_at terms r = take r.count (drop r.first terms)

abbrev pub expression_at : List Term → Row → Expr
expression_at terms r = expression_of (terms_at terms r)

-- the expressions behind the first
abbrev pub rest_expressions : List Expr → List Expr
rest_expressions [] = []
rest_expressions (e ∷ es) = es

-- what is left, before row i, of the blocks that are open there
abbrev pub frames_at : List Row → List Term → ℕ → List Frame
frames_at rows terms i = frames (lines_from (drop i rows) terms)

-- the second part of the innermost, and whether it has one
abbrev pub second_of : List Frame → Block
second_of [] = done
second_of (whole b ∷ fs) = done
second_of (parted a b ∷ fs) = b

abbrev pub is_parted : List Frame → Bool
is_parted [] = false
is_parted (whole b ∷ fs) = false
is_parted (parted a b ∷ fs) = true

-- a row's command before k, where these frames stand behind the row
abbrev pub command : Kind → Expr → List Frame → Block → Block
command kind.Skip e fs k = skip k
command (kind.Handler c) e fs k = k
command (kind.Assign v) e fs k = assign v e k
command (kind.Output c) e fs k = output c e k
command kind.If e fs k = branch (is_parted fs) e (here fs) (second_of fs) k
command kind.While e fs k = repeat e (here fs) k
command kind.Else e fs k = k
command kind.Close e fs k = k

-- the row behind a branch: its partner p is its Close, or an Else whose own partner q is
abbrev pub past : Kind → ℕ → ℕ → ℕ
past kind.Skip p q = p + 1
past (kind.Handler c) p q = p + 1
past (kind.Assign v) p q = p + 1
past (kind.Output c) p q = p + 1
past kind.If p q = p + 1
past kind.While p q = p + 1
past kind.Else p q = q + 1
past kind.Close p q = p + 1

-- the row behind row i, of partner p, and the blocks that it opens
abbrev pub next : List Row → Kind → ℕ → ℕ → ℕ
next rows kind.Skip i p = i + 1
next rows (kind.Handler c) i p = i + 1
next rows (kind.Assign v) i p = i + 1
next rows (kind.Output c) i p = i + 1
next rows kind.If i p = past (get_or rows p blank_row).kind p (get_or rows p blank_row).partner
next rows kind.While i p = p + 1
next rows kind.Else i p = i + 1
next rows kind.Close i p = i + 1

abbrev pub next_at : List Row → ℕ → ℕ
next_at rows i = next rows (get_or rows i blank_row).kind i (get_or rows i blank_row).partner

-- what is left of the innermost block before row i, and then k
abbrev pub block_at : List Row → List Term → ℕ → Block → Block
block_at rows terms i k = here (frames_at rows terms i) ⨟ k

-- the command of row i, and then k
abbrev pub row_at : List Row → List Term → ℕ → Block → Block
row_at rows terms i k = command (get_or rows i blank_row).kind (expression_at terms (slice_index_or rows i blank_row)) (frames_at rows terms (i + 1)) k

-- what is left of the innermost block before row i while a test holds, and then k
abbrev pub repeat_at : List Row → List Term → Expr → ℕ → Block → Block
repeat_at rows terms e i k = repeat e (here (frames_at rows terms i)) k
