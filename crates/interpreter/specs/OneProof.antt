-- That terms make one expression and that tables are sound have one proof each at most, so that types can hold them. Assumes nothing.
use Rattle.std.specs.Prelude.{◌≡◌, ℕ, ◌⊎◌, List}
use Rattle.std.proofs.Common.{sym, ap, ◌∙◌, inl, inr}
use Rattle.std.specs.Coded.{×_prop}
use Rattle.std.proofs.Props.{props}
use mathlib.Core.Sum.{⊎_set}
use Rattle.language.specs.declared.Operator.{Operator}
use Rattle.language.specs.Block.{Block, Block-set}
use Rattle.language.specs.Expression.{Expr, input, constant, variable, binary, Expr-set}
use Rattle.program.specs.declared.rows.Kind.{Kind}
use Rattle.program.specs.declared.rows.Kind.TheVariants as kind
use Rattle.program.specs.declared.rows.Row.{Row}
use Rattle.program.specs.declared.rows.Term.{Term}
use Rattle.program.specs.Trees.{Frame, Frame-set}
use Rattle.program.specs.Writing.{InRange}
use Rattle.interpreter.specs.Sound.{OneExpression, Expressed, ClosesAlone, Parts, SoundRow, Sound}

operator_set : IsSet Operator
operator_set = hlevel (props, ⊎_set)

kind_set : IsSet Kind
kind_set = hlevel (props, ⊎_set)

expr_set : IsSet Expr
expr_set = hlevel (props, operator_set, Expr-set)

block_set : IsSet Block
block_set = hlevel (props, expr_set, Block-set)

frame_set : IsSet Frame
frame_set = hlevel (props, block_set, Frame-set)

in_range_prop : (e : Expr) → IsProp (InRange e)
in_range_prop input = hlevel
in_range_prop (constant n) = hlevel props
in_range_prop (variable v) = hlevel props
in_range_prop (binary o l r) = ×_prop (in_range_prop l) (in_range_prop r)

pub one_expression_prop : (terms : List Term) → IsProp (OneExpression terms)
one_expression_prop terms = hlevel (props, in_range_prop, expr_set)

expressed_prop : (terms : List Term) (r : Row) → IsProp (Expressed terms r)
expressed_prop terms r = hlevel (props, one_expression_prop)

module _ (rows : List Row) (terms : List Term) (i p q : ℕ) where
  alone_prop : IsProp (ClosesAlone rows terms i p)
  alone_prop = hlevel (props, kind_set, block_set, frame_set)

  parts_prop : IsProp (Parts rows terms i p q)
  parts_prop = hlevel (props, kind_set, block_set, frame_set)

  -- no row is a Close and an Else
  not_both : ClosesAlone rows terms i p → Parts rows terms i p q → ⊥
  not_both a b = let e : kind.Else ≡ kind.Close = sym b.is_else ∙ a.closes.is_close in cc

  ends_prop : IsProp (ClosesAlone rows terms i p ⊎ Parts rows terms i p q)
  ends_prop (inl a) (inl b) = ap inl (alone_prop a b)
  ends_prop (inl a) (inr b) = absurd (not_both a b)
  ends_prop (inr a) (inl b) = absurd (not_both b a)
  ends_prop (inr a) (inr b) = ap inr (parts_prop a b)

row_prop : (rows : List Row) (terms : List Term) (i : ℕ) (r : Row) (c : Kind) → IsProp (SoundRow rows terms i r c)
row_prop rows terms i r kind.Skip = hlevel
row_prop rows terms i r (kind.Handler c) = hlevel (props, kind_set, frame_set)
row_prop rows terms i r (kind.Assign v) = hlevel (props, expressed_prop)
row_prop rows terms i r (kind.Output c) = hlevel (props, expressed_prop)
row_prop rows terms i r kind.If = hlevel (expressed_prop, ends_prop)
row_prop rows terms i r kind.While = hlevel (props, expressed_prop, kind_set, frame_set)
row_prop rows terms i r kind.Else = hlevel
row_prop rows terms i r kind.Close = hlevel

pub sound_prop : (rows : List Row) (terms : List Term) → IsProp (Sound rows terms)
sound_prop rows terms = hlevel row_prop
