-- Expressions, and their value in a store. Assumes nothing.
use Rattle.std.specs.Prelude.{ℕ, List, slice_index}
use Rattle.language.specs.declared.Operator.{Operator}
use Rattle.language.specs.Operators.{applied}

pub data Expr : Type 0 where
  input : Expr
  constant : ℕ → Expr
  variable : ℕ → Expr
  binary : Operator → Expr → Expr → Expr
  deriving IsSet as Expr-set

-- the value where the ticket's value is x
abbrev pub value : ℕ → List ℕ → Expr → ℕ
value x store input = x
value x store (constant k) = k
value x store (variable v) = slice_index store v
value x store (binary o l r) = applied o (value x store l) (value x store r)
