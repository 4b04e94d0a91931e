-- The label rule, which computes whether a program passes. Assumes nothing.
use Rattle.std.specs.Prelude.{ℕ, Bool, true, ◌&&◌, [], ◌∷◌}
use Rattle.language.specs.Expression.{Expr, input, constant, variable, binary}
use Rattle.language.specs.Block.{Block, done, skip, assign, output, branch, repeat, Handler, Tree}
use Rattle.typing.specs.Labels.{Labels}

-- the level of an expression in a handler whose channel has the level x
abbrev pub level_of : Labels → ℕ → Expr → ℕ
level_of labels x input = x
level_of labels x (constant k) = labels.scheme.lowest
level_of labels x (variable v) = labels.of_variable v
level_of labels x (binary o l r) = labels.scheme.join (level_of labels x l) (level_of labels x r)

-- the join of a ground and an expression: the ground of the blocks that a test opens, and what an assignment or output tells its target
abbrev pub raised : Labels → ℕ → ℕ → Expr → ℕ
raised labels x surrounding e = labels.scheme.join surrounding (level_of labels x e)

-- a block passes on a ground if each assignment and each output tells its target nothing that is not at or below it
abbrev pub passes : Labels → ℕ → ℕ → Block → Bool
passes labels x surrounding done = true
passes labels x surrounding (skip k) = passes labels x surrounding k
passes labels x surrounding (assign v e k) = labels.scheme.below (raised labels x surrounding e) (labels.of_variable v) && passes labels x surrounding k
passes labels x surrounding (output c e k) = labels.scheme.below (raised labels x surrounding e) (labels.of_channel c) && passes labels x surrounding k
passes labels x surrounding (branch w e p q k) = passes labels x (raised labels x surrounding e) p && (passes labels x (raised labels x surrounding e) q && passes labels x surrounding k)
passes labels x surrounding (repeat e p k) = passes labels x (raised labels x surrounding e) p && passes labels x surrounding k

-- the ground of a handler is the level of its channel
abbrev pub handler_passes : Labels → Handler → Bool
handler_passes labels h = passes labels (labels.of_channel h.channel) (labels.of_channel h.channel) h.body

abbrev pub passes_all : Labels → Tree → Bool
passes_all labels [] = true
passes_all labels (h ∷ p) = handler_passes labels h && passes_all labels p
