-- No row of a program breaks the label rule exactly if the program passes. Assumes nothing.
use Rattle.std.proofs.Common.{◌≡◌, ℕ, ◌+◌, ◌-◌, Bool, true, false, cond, not, ◌&&◌, List, [], ◌∷◌, ◌++◌, Some, Option, sym, refl, ap, ◌∙◌, append_assoc}
use Rattle.std.proofs.Math.Bool.{and_assoc, not-not}
use Rattle.std.specs.List.{AllByRecursion}
use Rattle.std.specs.Option.{is_none}
use Rattle.language.specs.Expression.{Expr}
use Rattle.language.specs.Block.{Block, done, skip, assign, output, branch, repeat, Tree}
use Rattle.program.specs.Lines.{Line}
use Rattle.program.specs.Trees.{expression_of}
use Rattle.program.specs.Writing.{terms_of, else_line, close_line, block_lines, lines_of, FitBlock, FitHandler}
use Rattle.program.proofs.Spelling.{expression_of_its_terms}
use Rattle.typing.specs.Labels.{Labels}
use Rattle.typing.specs.Rule.{raised, passes, passes_all}
use Rattle.label_check.specs.Rows.{fails, grounds, input_level, leak, first_leak}

tested : (b : Bool) (at : ℕ) (o : Option ℕ) → is_none (cond b (Some at) o) ≡ not b && is_none o
tested true at o = refl
tested false at o = refl

module _ (labels : Labels) where
  -- no row breaks the rule
  abbrev keeps : ℕ → List ℕ → List Line → Bool
  keeps x gs [] = true
  keeps x gs (l ∷ ls) = not (fails labels x gs l.0 (expression_of l.1)) && keeps (input_level labels x gs l.0) (grounds labels x gs l.0 (expression_of l.1)) ls

  none_keeps : (x : ℕ) (gs : List ℕ) (at : ℕ) (ls : List Line) → is_none (leak labels x gs at ls) ≡ keeps x gs ls
  none_keeps x gs at [] = refl
  none_keeps x gs at (l ∷ ls) =
      let e = expression_of l.1 in
      let b = fails labels x gs l.0 e in
      let y = input_level labels x gs l.0 in
      let hs = grounds labels x gs l.0 e in
      tested b at (leak labels y hs (at + 1) ls) ∙ ap (λ z. not b && z) (none_keeps y hs (at + 1) ls)

  -- a row that tests a level, before others
  aimed_keeps : (f : Expr → Bool) (e : Expr) (rest pass more : Bool) → rest ≡ pass && more → not (not (f (expression_of (terms_of e)))) && rest ≡ (f e && pass) && more
  aimed_keeps f e rest pass more h =
      ap (λ a. not (not (f a)) && rest) (expression_of_its_terms e) ∙ ap (λ z. z && rest) (not-not (f e)) ∙ ap (λ z. f e && z) h ∙ sym (and_assoc (f e) pass more)

  -- the rows of a block, before others
  block_keeps : (d : ℕ) (b : Block) → FitBlock d b → (x g : ℕ) (gs : List ℕ) (ls : List Line) → keeps x (g ∷ gs) (block_lines b ++ ls) ≡ passes labels x g b && keeps x (g ∷ gs) ls
  block_keeps d done fit x g gs ls = refl
  block_keeps d (skip k) fit x g gs ls = block_keeps d k fit x g gs ls
  block_keeps d (assign v e k) fit x g gs ls =
      aimed_keeps (λ a. labels.scheme.below (raised labels x g a) (labels.of_variable v)) e _ (passes labels x g k) (keeps x (g ∷ gs) ls) (block_keeps d k fit.2 x g gs ls)
  block_keeps d (output c e k) fit x g gs ls =
      aimed_keeps (λ a. labels.scheme.below (raised labels x g a) (labels.of_channel c)) e _ (passes labels x g k) (keeps x (g ∷ gs) ls) (block_keeps d k fit.3 x g gs ls)
  block_keeps d (branch true e p q k) fit x g gs ls =
      let r = raised labels x g e in
      let first = passes labels x r p in
      let second = passes labels x r q in
      let end = close_line ∷ block_lines k in
      let parts = else_line ∷ (block_lines q ++ end) in
      ap (λ a. keeps x (raised labels x g a ∷ g ∷ gs) ((block_lines p ++ parts) ++ ls)) (expression_of_its_terms e)
      ∙ ap (keeps x (r ∷ g ∷ gs)) (append_assoc (block_lines p) parts ls)
      ∙ block_keeps (d - 1) p fit.2 x r (g ∷ gs) (parts ++ ls)
      ∙ ap (λ z. first && z) (
      ap (keeps x (r ∷ g ∷ gs)) (append_assoc (block_lines q) end ls)
      ∙ block_keeps (d - 1) q fit.3 x r (g ∷ gs) (end ++ ls)
      ∙ ap (λ z. second && z) (block_keeps d k fit.5 x g gs ls)
      ∙ sym (and_assoc second (passes labels x g k) (keeps x (g ∷ gs) ls)))
      ∙ sym (and_assoc first (second && passes labels x g k) (keeps x (g ∷ gs) ls))
  block_keeps d (branch false e p q k) fit x g gs ls =
      let r = raised labels x g e in
      let first = passes labels x r p in
      let end = close_line ∷ block_lines k in
      ap (λ a. keeps x (raised labels x g a ∷ g ∷ gs) ((block_lines p ++ end) ++ ls)) (expression_of_its_terms e)
      ∙ ap (keeps x (r ∷ g ∷ gs)) (append_assoc (block_lines p) end ls)
      ∙ block_keeps (d - 1) p fit.2 x r (g ∷ gs) (end ++ ls)
      ∙ ap (λ z. first && z) (block_keeps d k fit.5 x g gs ls)
      ∙ sym (and_assoc first (passes labels x g k) (keeps x (g ∷ gs) ls))
      ∙ ap (λ (b : Block). (first && (passes labels x r b && passes labels x g k)) && keeps x (g ∷ gs) ls) (sym fit.4)
  block_keeps d (repeat e p k) fit x g gs ls =
      let r = raised labels x g e in
      let first = passes labels x r p in
      let end = close_line ∷ block_lines k in
      ap (λ a. keeps x (raised labels x g a ∷ g ∷ gs) ((block_lines p ++ end) ++ ls)) (expression_of_its_terms e)
      ∙ ap (keeps x (r ∷ g ∷ gs)) (append_assoc (block_lines p) end ls)
      ∙ block_keeps (d - 1) p fit.2 x r (g ∷ gs) (end ++ ls)
      ∙ ap (λ z. first && z) (block_keeps d k fit.3 x g gs ls)
      ∙ sym (and_assoc first (passes labels x g k) (keeps x (g ∷ gs) ls))

  tree_keeps : (p : Tree) → AllByRecursion FitHandler p → (x : ℕ) → keeps x [] (lines_of p) ≡ passes_all labels p
  tree_keeps [] fit x = refl
  tree_keeps (h ∷ hs) fit x =
      let c = labels.of_channel h.channel in
      block_keeps 8 h.body fit.0.1 c c [] (close_line ∷ lines_of hs) ∙ ap (λ z. passes labels c c h.body && z) (tree_keeps hs fit.1 c)

  pub none_is_passing : (p : Tree) → AllByRecursion FitHandler p → is_none (first_leak labels (lines_of p)) ≡ passes_all labels p
  none_is_passing p fit = none_keeps 0 [] 0 (lines_of p) ∙ tree_keeps p fit 0
