-- A table of joins gives the same first row as the scheme that it was copied from. Assumes nothing.
use Rattle.std.proofs.Common.{◌≡◌, ℕ, ◌+◌, ◌<◌, cond, not, eqb, List, [], ◌∷◌, get_or, Some, sym, refl, ap, ◌∙◌, ap₂}
use Rattle.std.proofs.lemmas.Bool.{eq-eqb, eqb-true}
use Rattle.std.proofs.lemmas.Bool.Decides.{same_from_decides}
use Rattle.language.specs.Expression.{Expr, input, constant, variable, binary}
use Rattle.levels.specs.Scheme.{Levels, Lattice}
use Rattle.levels.specs.Lattices.{join_level}
use Rattle.sheet.specs.Sheets.{channel_level}
use Rattle.program.specs.declared.rows.Kind.{Kind}
use Rattle.program.specs.declared.rows.Kind.TheVariants as kind
use Rattle.program.specs.Lines.{Line}
use Rattle.program.specs.Trees.{expression_of}
use Rattle.typing.specs.Labels.{labels_of, Lawful}
use Rattle.typing.specs.Rule.{level_of, raised}
use Rattle.typing.proofs.Levels.{labels_lawful, level_of_level}
use Rattle.label_check.specs.declared.table.Table.{Table}
use Rattle.label_check.specs.Rows.{fails, grounds, input_level, leak, first_leak}
use Rattle.label_check.specs.Joins.{entry}
use Rattle.label_check.specs.Tables.{labels_in, Copied}

abbrev EachBelow : ℕ → List ℕ → Type 0
EachBelow n [] = Unit {0}
EachBelow n (g ∷ gs) = (g < n) × EachBelow n gs

-- a is at or below b exactly if their join is b
below_join : {L : Levels} → Lattice L → (a b : ℕ) → a < L.count → b < L.count → eqb (L.join a b) b ≡ L.below a b
below_join {L} laws a b ha hb =
    let j = laws.joins a b ha hb in
    same_from_decides (eqb (L.join a b) b) (L.below a b) (
      (λ e. ap (L.below a) (sym (eqb-true (L.join a b) b e)) ∙ j.left),
      (λ e. eq-eqb (L.join a b) b (laws.antisymmetric (L.join a b) b (j.least b e (laws.reflexive b hb)) j.right)),
    ) ((λ e. e), (λ e. e))

module _ {L : Levels} (laws : Lattice L) (t : Table) (c : Copied L t) where
  lawful : Lawful (labels_of L t.sheet)
  lawful = labels_lawful laws t.sheet c.has

  same_level : (x : ℕ) → x < L.count → (e : Expr) → level_of (labels_in t) x e ≡ level_of (labels_of L t.sheet) x e
  same_level x h input = refl
  same_level x h (constant n) = c.lowest
  same_level x h (variable v) = refl
  same_level x h (binary o a b) =
      ap₂ (entry t.joins) (same_level x h a) (same_level x h b)
      ∙ c.joins (level_of (labels_of L t.sheet) x a) (level_of (labels_of L t.sheet) x b) (level_of_level lawful x h a) (level_of_level lawful x h b)

  same_raised : (x g : ℕ) → x < L.count → g < L.count → (e : Expr) → raised (labels_in t) x g e ≡ raised (labels_of L t.sheet) x g e
  same_raised x g h i e = ap (entry t.joins g) (same_level x h e) ∙ c.joins g (level_of (labels_of L t.sheet) x e) i (level_of_level lawful x h e)

  raised_level : (x g : ℕ) → x < L.count → g < L.count → (e : Expr) → raised (labels_of L t.sheet) x g e < L.count
  raised_level x g h i e = join_level laws g (level_of (labels_of L t.sheet) x e) i (level_of_level lawful x h e)

  same_test : (x g to : ℕ) → x < L.count → g < L.count → to < L.count → (e : Expr)
      → not (eqb (entry t.joins (raised (labels_in t) x g e) to) to) ≡ not (L.below (raised (labels_of L t.sheet) x g e) to)
  same_test x g to h i j e =
      ap (λ z. not (eqb (entry t.joins z to) to)) (same_raised x g h i e)
      ∙ ap (λ z. not (eqb z to)) (c.joins (raised (labels_of L t.sheet) x g e) to (raised_level x g h i e) j)
      ∙ ap not (below_join laws (raised (labels_of L t.sheet) x g e) to (raised_level x g h i e) j)

  same_fails : (x : ℕ) (gs : List ℕ) (k : Kind) (e : Expr) → x < L.count → EachBelow L.count gs → fails (labels_in t) x gs k e ≡ fails (labels_of L t.sheet) x gs k e
  same_fails x [] k e h a = refl
  same_fails x (g ∷ gs) kind.Skip e h a = refl
  same_fails x (g ∷ gs) (kind.Handler n) e h a = refl
  same_fails x (g ∷ gs) (kind.Assign v) e h a = same_test x g (get_or t.sheet.variables v 0) h a.0 (lawful.variables v) e
  same_fails x (g ∷ gs) (kind.Output n) e h a = same_test x g (channel_level t.sheet n) h a.0 (lawful.channels n) e
  same_fails x (g ∷ gs) kind.If e h a = refl
  same_fails x (g ∷ gs) kind.While e h a = refl
  same_fails x (g ∷ gs) kind.Else e h a = refl
  same_fails x (g ∷ gs) kind.Close e h a = refl

  same_grounds : (x : ℕ) (gs : List ℕ) (k : Kind) (e : Expr) → x < L.count → EachBelow L.count gs
      → (grounds (labels_in t) x gs k e ≡ grounds (labels_of L t.sheet) x gs k e) × EachBelow L.count (grounds (labels_of L t.sheet) x gs k e)
  same_grounds x [] kind.Skip e h a = (refl, tt)
  same_grounds x [] (kind.Handler n) e h a = (refl, (lawful.channels n, tt))
  same_grounds x [] (kind.Assign v) e h a = (refl, tt)
  same_grounds x [] (kind.Output n) e h a = (refl, tt)
  same_grounds x [] kind.If e h a = (refl, tt)
  same_grounds x [] kind.While e h a = (refl, tt)
  same_grounds x [] kind.Else e h a = (refl, tt)
  same_grounds x [] kind.Close e h a = (refl, tt)
  same_grounds x (g ∷ gs) kind.Skip e h a = (refl, a)
  same_grounds x (g ∷ gs) (kind.Handler n) e h a = (refl, a)
  same_grounds x (g ∷ gs) (kind.Assign v) e h a = (refl, a)
  same_grounds x (g ∷ gs) (kind.Output n) e h a = (refl, a)
  same_grounds x (g ∷ gs) kind.If e h a = (ap (λ z. z ∷ g ∷ gs) (same_raised x g h a.0 e), (raised_level x g h a.0 e, a))
  same_grounds x (g ∷ gs) kind.While e h a = (ap (λ z. z ∷ g ∷ gs) (same_raised x g h a.0 e), (raised_level x g h a.0 e, a))
  same_grounds x (g ∷ gs) kind.Else e h a = (refl, a)
  same_grounds x (g ∷ gs) kind.Close e h a = (refl, a.1)

  same_input : (x : ℕ) (gs : List ℕ) (k : Kind) → x < L.count
      → (input_level (labels_in t) x gs k ≡ input_level (labels_of L t.sheet) x gs k) × (input_level (labels_of L t.sheet) x gs k < L.count)
  same_input x (g ∷ gs) k h = (refl, h)
  same_input x [] kind.Skip h = (refl, h)
  same_input x [] (kind.Handler n) h = (refl, lawful.channels n)
  same_input x [] (kind.Assign v) h = (refl, h)
  same_input x [] (kind.Output n) h = (refl, h)
  same_input x [] kind.If h = (refl, h)
  same_input x [] kind.While h = (refl, h)
  same_input x [] kind.Else h = (refl, h)
  same_input x [] kind.Close h = (refl, h)

  same_leak : (x : ℕ) (gs : List ℕ) (at : ℕ) (ls : List Line) → x < L.count → EachBelow L.count gs → leak (labels_in t) x gs at ls ≡ leak (labels_of L t.sheet) x gs at ls
  same_leak x gs at [] h a = refl
  same_leak x gs at (l ∷ ls) h a =
      let labels = labels_of L t.sheet in
      let e = expression_of l.1 in
      let i = same_input x gs l.0 h in
      let g = same_grounds x gs l.0 e h a in
      ap (λ b. cond b (Some at) (leak (labels_in t) (input_level (labels_in t) x gs l.0) (grounds (labels_in t) x gs l.0 e) (at + 1) ls)) (same_fails x gs l.0 e h a)
      ∙ ap (λ o. cond (fails labels x gs l.0 e) (Some at) o)
      (ap₂ (λ y hs. leak (labels_in t) y hs (at + 1) ls) i.0 g.0 ∙ same_leak (input_level labels x gs l.0) (grounds labels x gs l.0 e) (at + 1) ls i.1 g.1)

  pub same_first_leak : (ls : List Line) → first_leak (labels_in t) ls ≡ first_leak (labels_of L t.sheet) ls
  same_first_leak ls = same_leak 0 [] 0 ls laws.sized.0 tt
