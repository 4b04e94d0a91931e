-- The frames of the rows of a block, whatever the rows behind it. Assumes nothing.
use Rattle.std.proofs.Common.{◌≡◌, ℕ, ◌+◌, true, false, List, [], ◌∷◌, ◌++◌, length, refl, ap, ◌∙◌, append_assoc}
use Rattle.language.specs.Block.{Block, done, skip, assign, output, branch, repeat, Tree}
use Rattle.program.specs.declared.rows.Kind.TheVariants as kind
use Rattle.program.specs.declared.rows.Row.{Row}
use Rattle.program.specs.declared.rows.Term.{Term}
use Rattle.program.specs.Building.{lines_from}
use Rattle.program.specs.Trees.{Frame, whole, parted, prefixed, halved, branched, repeated, around, frames}
use Rattle.program.specs.Writing.{terms_of, row, width, block_rows, tree_rows}
use Rattle.interpreter.specs.Places.{expression_at}

prefixed_none : (fs : List Frame) → fs ≡ prefixed (λ b. b) fs
prefixed_none [] = refl
prefixed_none (whole b ∷ fs) = refl
prefixed_none (parted a b ∷ fs) = refl

prefixed_twice : (f g : Block → Block) (fs : List Frame) → prefixed f (prefixed g fs) ≡ prefixed (λ b. f (g b)) fs
prefixed_twice f g [] = refl
prefixed_twice f g (whole b ∷ fs) = refl
prefixed_twice f g (parted a b ∷ fs) = refl

-- two parts with a row behind each, and then more rows
pub behind_parts : (xs ys zs rs : List Row) (m c : Row) → (xs ++ m ∷ (ys ++ c ∷ zs)) ++ rs ≡ xs ++ m ∷ (ys ++ c ∷ (zs ++ rs))
behind_parts xs ys zs rs m c = append_assoc xs (m ∷ (ys ++ c ∷ zs)) rs ∙ ap (λ w. xs ++ m ∷ w) (append_assoc ys (c ∷ zs) rs)

module _ (terms : List Term) where
  -- what rows leave open before them
  abbrev pub opened : List Row → List Frame
  opened rs = frames (lines_from rs terms)

  -- rows that only put commands before the innermost of what the rows behind them leave open
  abbrev pub Prefixes : List Row → List Row → Type 0
  Prefixes xs rs = (f : Block → Block) × (opened (xs ++ rs) ≡ prefixed f (opened rs))

  pub part_frames : (xs rs : List Row) (u : ℕ) → Prefixes xs (row kind.Close u 0 0 ∷ rs) → (b : Block) × (opened (xs ++ row kind.Close u 0 0 ∷ rs) ≡ whole b ∷ opened rs)
  part_frames xs rs u a = (a.0 done, a.1)

  pub parts_frames : (xs ys rs : List Row) (u v p : ℕ) (c : Block) → Prefixes xs (row kind.Else u 0 p ∷ (ys ++ row kind.Close v 0 0 ∷ rs)) → opened (ys ++ row kind.Close v 0 0 ∷ rs) ≡ whole c ∷ opened rs → (b : Block) × (opened (xs ++ row kind.Else u 0 p ∷ (ys ++ row kind.Close v 0 0 ∷ rs)) ≡ parted b c ∷ opened rs)
  parts_frames xs ys rs u v p c a e = (a.0 done, a.1 ∙ ap (λ fs. prefixed a.0 (halved fs)) e)

  pub block_prefixes : (j u : ℕ) (b : Block) (rs : List Row) → Prefixes (block_rows j u b) rs
  block_prefixes j u done rs = ((λ b. b), prefixed_none (opened rs))
  block_prefixes j u (skip k) rs =
      let a = block_prefixes (j + 1) u k rs in
      ((λ b. skip (a.0 b)), ap (prefixed skip) a.1 ∙ prefixed_twice skip a.0 (opened rs))
  block_prefixes j u (assign v e k) rs =
      let a = block_prefixes (j + 1) (u + length (terms_of e)) k rs in
      let f = assign v (expression_at terms (row (kind.Assign v) u (length (terms_of e)) 0)) in
      ((λ b. f (a.0 b)), ap (prefixed f) a.1 ∙ prefixed_twice f a.0 (opened rs))
  block_prefixes j u (output c e k) rs =
      let a = block_prefixes (j + 1) (u + length (terms_of e)) k rs in
      let f = output c (expression_at terms (row (kind.Output c) u (length (terms_of e)) 0)) in
      ((λ b. f (a.0 b)), ap (prefixed f) a.1 ∙ prefixed_twice f a.0 (opened rs))
  block_prefixes j u (branch true e p q k) rs =
      let u₁ = u + length (terms_of e) in
      let u₂ = u₁ + width p in
      let u₃ = u₂ + width q in
      let first = block_rows (j + 1) u₁ p in
      let middle = j + 1 + length first in
      let second = block_rows (middle + 1) u₂ q in
      let end = middle + 1 + length second in
      let rest = block_rows (end + 1) u₃ k in
      let x = expression_at terms (row kind.If u (length (terms_of e)) middle) in
      let a = block_prefixes (end + 1) u₃ k rs in
      let c = part_frames second (rest ++ rs) u₃ (block_prefixes (middle + 1) u₂ q (row kind.Close u₃ 0 0 ∷ (rest ++ rs))) in
      let b = parts_frames first second (rest ++ rs) u₂ u₃ end c.0 (block_prefixes (j + 1) u₁ p (row kind.Else u₂ 0 end ∷ (second ++ row kind.Close u₃ 0 0 ∷ (rest ++ rs)))) c.1 in
      let f = branch true x b.0 c.0 in (
        (λ d. f (a.0 d)),
        ap (λ xs. branched x (opened xs)) (behind_parts first second rest rs (row kind.Else u₂ 0 end) (row kind.Close u₃ 0 0))
            ∙ ap (branched x) b.1 ∙ ap (prefixed f) a.1 ∙ prefixed_twice f a.0 (opened rs),
      )
  block_prefixes j u (branch false e p q k) rs =
      let u₁ = u + length (terms_of e) in
      let u₂ = u₁ + width p in
      let first = block_rows (j + 1) u₁ p in
      let end = j + 1 + length first in
      let rest = block_rows (end + 1) u₂ k in
      let x = expression_at terms (row kind.If u (length (terms_of e)) end) in
      let a = block_prefixes (end + 1) u₂ k rs in
      let b = part_frames first (rest ++ rs) u₂ (block_prefixes (j + 1) u₁ p (row kind.Close u₂ 0 0 ∷ (rest ++ rs))) in
      let f = branch false x b.0 done in (
        (λ c. f (a.0 c)),
        ap (λ xs. branched x (opened xs)) (append_assoc first (row kind.Close u₂ 0 0 ∷ rest) rs)
            ∙ ap (branched x) b.1 ∙ ap (prefixed f) a.1 ∙ prefixed_twice f a.0 (opened rs),
      )
  block_prefixes j u (repeat e p k) rs =
      let u₁ = u + length (terms_of e) in
      let u₂ = u₁ + width p in
      let body = block_rows (j + 1) u₁ p in
      let end = j + 1 + length body in
      let rest = block_rows (end + 1) u₂ k in
      let x = expression_at terms (row kind.While u (length (terms_of e)) end) in
      let a = block_prefixes (end + 1) u₂ k rs in
      let b = part_frames body (rest ++ rs) u₂ (block_prefixes (j + 1) u₁ p (row kind.Close u₂ 0 0 ∷ (rest ++ rs))) in
      let f = repeat x b.0 in (
        (λ c. f (a.0 c)),
        ap (λ xs. repeated x (opened xs)) (append_assoc body (row kind.Close u₂ 0 0 ∷ rest) rs)
            ∙ ap (repeated x) b.1 ∙ ap (prefixed f) a.1 ∙ prefixed_twice f a.0 (opened rs),
      )

  -- handlers leave nothing open
  pub tree_frames : (j u : ℕ) (p : Tree) → opened (tree_rows j u p) ≡ []
  tree_frames j u [] = refl
  tree_frames j u (h ∷ hs) =
      let u₁ = u + width h.body in
      let body = block_rows (j + 1) u h.body in
      let end = j + 1 + length body in
      let rest = tree_rows (end + 1) u₁ hs in
      ap around (part_frames body rest u₁ (block_prefixes (j + 1) u h.body (row kind.Close u₁ 0 0 ∷ rest))).1 ∙ tree_frames (end + 1) u₁ hs
