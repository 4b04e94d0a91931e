-- A program that passes is secure for the observer at every level. Assumes nothing.
use Rattle.std.proofs.Common.{◌≡◌, ℕ, ◌<◌, true, false, eqb, [], ◌∷◌, refl, subst, inl, inr, ⊎_elim}
use Rattle.std.proofs.lemmas.Bool.{and_parts, both_ways, cases_Bool, cond_both, eqb-true}
use Rattle.language.specs.Expression.{Expr, input, constant, variable, binary}
use Rattle.language.specs.Block.{Block, done, skip, assign, output, branch, repeat, Tree, handler_of}
use Rattle.typing.specs.Labels.{Labels, Lawful, Under}
use Rattle.typing.specs.Rule.{level_of, raised, passes, passes_all}
use Rattle.typing.proofs.Levels.{under_trans, upper_level, binary_least, raised_least}
use Rattle.secrecy.specs.Observer.{observer}
use Rattle.secrecy.proofs.Blocks.{Known, Hidden, Secure}

module _ {labels : Labels} (ok : Lawful labels) (m x : ℕ) (hx : x < labels.scheme.count) where
  -- an expression at or below m is known at m
  known_from : (e : Expr) → Under labels (level_of labels x e) m → Known (observer labels m) e
  known_from input u = tt
  known_from (constant k) u = tt
  known_from (variable v) u = u
  known_from (binary o l r) u =
      let j = binary_least ok x hx l r in
      (known_from l (under_trans ok j.left u), known_from r (under_trans ok j.right u))

  -- what is above a level that is not at or below m is not at or below m
  hidden_above : {g t : ℕ} → Under labels g t → labels.scheme.below g m ≡ false → labels.scheme.below t m ≡ false
  hidden_above {g} {t} u h = ⊎_elim (λ s. absurd (both_ways (labels.scheme.below g m) h (under_trans ok u s))) (λ f. f) (cases_Bool (labels.scheme.below t m))

  pub hidden_from : (g : ℕ) → g < labels.scheme.count → labels.scheme.below g m ≡ false → (p : Block) → passes labels x g p ≡ true → Hidden (observer labels m) p
  hidden_from g hg n done t = tt
  hidden_from g hg n (skip k) t = hidden_from g hg n k t
  hidden_from g hg n (assign v e k) t =
      let parts = and_parts _ _ t in
      (hidden_above (under_trans ok (raised_least ok x hx g hg e).left parts.0) n, hidden_from g hg n k parts.1)
  hidden_from g hg n (output c e k) t =
      let parts = and_parts _ _ t in
      (hidden_above (under_trans ok (raised_least ok x hx g hg e).left parts.0) n, hidden_from g hg n k parts.1)
  hidden_from g hg n (branch w e p q k) t =
      let parts = and_parts _ _ t in
      let rest = and_parts _ _ parts.1 in
      let u = (raised_least ok x hx g hg e).left in
      let r = raised labels x g e in
      (hidden_from r (upper_level ok u) (hidden_above u n) p parts.0, hidden_from r (upper_level ok u) (hidden_above u n) q rest.0, hidden_from g hg n k rest.1)
  hidden_from g hg n (repeat e p k) t =
      let parts = and_parts _ _ t in
      let u = (raised_least ok x hx g hg e).left in
      (hidden_from (raised labels x g e) (upper_level ok u) (hidden_above u n) p parts.0, hidden_from g hg n k parts.1)

  pub secure_from : (g : ℕ) → g < labels.scheme.count → (p : Block) → passes labels x g p ≡ true → Secure (observer labels m) p
  secure_from g hg done t = tt
  secure_from g hg (skip k) t = secure_from g hg k t
  secure_from g hg (assign v e k) t =
      let parts = and_parts _ _ t in
      ((λ s. known_from e (under_trans ok (under_trans ok (raised_least ok x hx g hg e).right parts.0) s)), secure_from g hg k parts.1)
  secure_from g hg (output c e k) t =
      let parts = and_parts _ _ t in
      ((λ s. known_from e (under_trans ok (under_trans ok (raised_least ok x hx g hg e).right parts.0) s)), secure_from g hg k parts.1)
  secure_from g hg (branch w e p q k) t =
      let parts = and_parts _ _ t in
      let rest = and_parts _ _ parts.1 in
      let u = (raised_least ok x hx g hg e).right in
      let r = raised labels x g e in
      let hr = upper_level ok u in (
        ⊎_elim
            (λ s. inl (known_from e s, secure_from r hr p parts.0, secure_from r hr q rest.0))
            (λ f. inr (hidden_from r hr (hidden_above u f) p parts.0, hidden_from r hr (hidden_above u f) q rest.0))
            (cases_Bool (labels.scheme.below (level_of labels x e) m)),
        secure_from g hg k rest.1,
      )
  secure_from g hg (repeat e p k) t =
      let parts = and_parts _ _ t in
      let u = (raised_least ok x hx g hg e).right in
      let r = raised labels x g e in
      let hr = upper_level ok u in (
        ⊎_elim
            (λ s. inl (known_from e s, secure_from r hr p parts.0))
            (λ f. inr (hidden_from r hr (hidden_above u f) p parts.0))
            (cases_Bool (labels.scheme.below (level_of labels x e) m)),
        secure_from g hg k parts.1,
      )

-- the handler of a channel passes on its channel's level
passes_at : (labels : Labels) (p : Tree) (c : ℕ) → passes_all labels p ≡ true → passes labels (labels.of_channel c) (labels.of_channel c) (handler_of p c) ≡ true
passes_at labels [] c t = refl
passes_at labels (h ∷ p) c t =
    let parts = and_parts _ _ t in
    cond_both (eqb h.channel c) h.body (handler_of p c) (λ b. passes labels (labels.of_channel c) (labels.of_channel c) b ≡ true)
    (λ e. subst (λ (d : ℕ). passes labels (labels.of_channel d) (labels.of_channel d) h.body ≡ true) (eqb-true h.channel c e) parts.0)
    (λ e. passes_at labels p c parts.1)

module _ {labels : Labels} (ok : Lawful labels) (p : Tree) (passed : passes_all labels p ≡ true) (m c : ℕ) where
  pub handler_secure : Secure (observer labels m) (handler_of p c)
  handler_secure = secure_from ok m (labels.of_channel c) (ok.channels c) (labels.of_channel c) (ok.channels c) (handler_of p c) (passes_at labels p c passed)

  -- the handler of a channel that m does not see
  pub handler_hidden : (observer labels m).sees c ≡ false → Hidden (observer labels m) (handler_of p c)
  handler_hidden n = hidden_from ok m (labels.of_channel c) (ok.channels c) (labels.of_channel c) (ok.channels c) n (handler_of p c) (passes_at labels p c passed)
