-- How a check goes on from a row. Assumes nothing.
use Rattle.std.proofs.Common.{◌≡◌, ℕ, ◌+◌, ◌<◌, ◌≤◌, cond, List, [], ◌∷◌, length, get_or, drop, Some, None, refl, ap, ◌∙◌}
use Rattle.std.proofs.lemmas.List.{at_drop_more, at_drop_all}
use Rattle.language.specs.Expression.{Expr}
use Rattle.program.specs.declared.rows.Kind.{Kind}
use Rattle.program.specs.declared.rows.Kind.TheVariants as kind
use Rattle.program.specs.declared.rows.Row.{Row}
use Rattle.program.specs.declared.rows.Term.{Term}
use Rattle.program.specs.Building.{blank_row, lines_from}
use Rattle.program.specs.Lines.{Line}
use Rattle.interpreter.specs.Places.{expression_at}
use Rattle.typing.specs.Labels.{Labels}
use Rattle.label_check.specs.Rows.{fails, grounds, input_level, leak}
use Rattle.label_check.specs.declared.check.Check.{Check}
use Rattle.label_check.specs.Tables.{onward, onward_in}

-- a block has been checked from one row to another
pub record Walk (c : Check) (pc from at : ℕ) : Type 0 where
  pub low : from ≤ at
  pub high : at ≤ length c.program.rows.now
  pub same : (gs : List ℕ) → onward_in c (pc ∷ gs) from ≡ onward_in c (pc ∷ gs) at

module _ (labels : Labels) (rows : List Row) (terms : List Term) where
  -- the row at a place, and then the rest
  pub at_row : (x : ℕ) (gs : List ℕ) (at : ℕ) (k : Kind) → at < length rows → (get_or rows at blank_row).kind ≡ k
      → onward labels rows terms x gs at
      ≡ cond (fails labels x gs k (expression_at terms (get_or rows at blank_row))) (Some at)
      (onward labels rows terms (input_level labels x gs k) (grounds labels x gs k (expression_at terms (get_or rows at blank_row))) (at + 1))
  at_row x gs at k h e =
      let a = expression_at terms (get_or rows at blank_row) in
      at_drop_more (λ rs. leak labels x gs at (lines_from rs terms)) rows at blank_row h
      ∙ ap (λ k. cond (fails labels x gs k a) (Some at) (onward labels rows terms (input_level labels x gs k) (grounds labels x gs k a) (at + 1))) e

  pub past : (x : ℕ) (gs : List ℕ) (at : ℕ) → length rows ≤ at → onward labels rows terms x gs at ≡ None
  past x gs at h = at_drop_all (λ rs. leak labels x gs at (lines_from rs terms)) rows at h

-- outside a handler
module _ (labels : Labels) where
  outside_input : (x : ℕ) (k : Kind) (e : Expr) (y at : ℕ) (ls : List Line)
      → ((x y at : ℕ) → leak labels x [] at ls ≡ leak labels y [] at ls)
      → leak labels (input_level labels x [] k) (grounds labels x [] k e) at ls ≡ leak labels (input_level labels y [] k) (grounds labels y [] k e) at ls
  outside_input x kind.Skip e y at ls ih = ih x y at
  outside_input x (kind.Handler c) e y at ls ih = refl
  outside_input x (kind.Assign v) e y at ls ih = ih x y at
  outside_input x (kind.Output c) e y at ls ih = ih x y at
  outside_input x kind.If e y at ls ih = ih x y at
  outside_input x kind.While e y at ls ih = ih x y at
  outside_input x kind.Else e y at ls ih = ih x y at
  outside_input x kind.Close e y at ls ih = ih x y at

  any_input : (ls : List Line) (x y at : ℕ) → leak labels x [] at ls ≡ leak labels y [] at ls
  any_input [] x y at = refl
  any_input (l ∷ ls) x y at = outside_input x l.0 _ y (at + 1) ls (any_input ls)

  module _ (rows : List Row) (terms : List Term) where
    -- a handler's block has been checked, up to row n
    pub handler_on : (at c n : ℕ) → at < length rows → (get_or rows at blank_row).kind ≡ kind.Handler c
        → ((gs : List ℕ) → onward labels rows terms (labels.of_channel c) (labels.of_channel c ∷ gs) (at + 1) ≡ onward labels rows terms (labels.of_channel c) gs n)
        → onward labels rows terms 0 [] at ≡ onward labels rows terms 0 [] n
    handler_on at c n h e b = at_row labels rows terms 0 [] at (kind.Handler c) h e ∙ b [] ∙ any_input (lines_from (drop n rows) terms) (labels.of_channel c) 0 n
