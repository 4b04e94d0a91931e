-- Site programs as trees: handlers of channels, blocks of commands. Assumes nothing.
use Rattle.std.specs.Prelude.{ℕ, Bool, cond, List, [], ◌∷◌, ◌==◌}
use Rattle.language.specs.Expression.{Expr}

-- a block is a command with the block that follows it; a branch says whether its second part is written, or left out and so empty
pub data Block : Type 0 where
  done : Block
  skip : Block → Block
  assign : ℕ → Expr → Block → Block
  output : ℕ → Expr → Block → Block
  branch : Bool → Expr → Block → Block → Block → Block
  repeat : Expr → Block → Block → Block
  deriving IsSet as Block-set

infixr 60 ◌⨟◌
-- a block, and then another
abbrev pub ◌⨟◌ : Block → Block → Block
done ⨟ k = k
skip b ⨟ k = skip (b ⨟ k)
assign v e b ⨟ k = assign v e (b ⨟ k)
output c e b ⨟ k = output c e (b ⨟ k)
branch w e p q b ⨟ k = branch w e p q (b ⨟ k)
repeat e p b ⨟ k = repeat e p (b ⨟ k)

pub record Handler : Type 0 where
  pub channel : ℕ
  pub body : Block

abbrev pub Tree : Type 0
Tree = List Handler

-- what a channel's ticket runs: nothing where the channel has no handler
abbrev pub handler_of : Tree → ℕ → Block
handler_of [] c = done
handler_of (h ∷ p) c = cond (h.channel == c) h.body (handler_of p c)
