-- Blocks that write nothing an observer sees, and blocks that tell it nothing. Assumes nothing.
use Rattle.std.proofs.Common.{◌≡◌, ℕ, true, false, ◌⊎◌, List, refl, ap, ap₂}
use Rattle.language.specs.Expression.{Expr, input, constant, variable, binary, value}
use Rattle.language.specs.Operators.{applied}
use Rattle.language.specs.Block.{Block, done, skip, assign, output, branch, repeat, ◌⨟◌}
use Rattle.secrecy.specs.Observer.{Observer, Agree}

pub ⨟-assoc : (p q k : Block) → (p ⨟ q) ⨟ k ≡ p ⨟ (q ⨟ k)
⨟-assoc done q k = refl
⨟-assoc (skip p) q k = ap skip (⨟-assoc p q k)
⨟-assoc (assign v e p) q k = ap (assign v e) (⨟-assoc p q k)
⨟-assoc (output c e p) q k = ap (output c e) (⨟-assoc p q k)
⨟-assoc (branch w e a b p) q k = ap (branch w e a b) (⨟-assoc p q k)
⨟-assoc (repeat e a p) q k = ap (repeat e a) (⨟-assoc p q k)

-- the observer reads every variable of an expression
abbrev pub Known : Observer → Expr → Type 0
Known O input = Unit {0}
Known O (constant k) = Unit {0}
Known O (variable v) = O.reads v ≡ true
Known O (binary o l r) = Known O l × Known O r

-- all that a block writes is hidden from the observer
abbrev pub Hidden : Observer → Block → Type 0
Hidden O done = Unit {0}
Hidden O (skip k) = Hidden O k
Hidden O (assign v e k) = (O.reads v ≡ false) × Hidden O k
Hidden O (output c e k) = (O.sees c ≡ false) × Hidden O k
Hidden O (branch w e p q k) = Hidden O p × Hidden O q × Hidden O k
Hidden O (repeat e p k) = Hidden O p × Hidden O k

-- what the observer sees written is known to it, and so is each test around it
abbrev pub Secure : Observer → Block → Type 0
Secure O done = Unit {0}
Secure O (skip k) = Secure O k
Secure O (assign v e k) = (O.reads v ≡ true → Known O e) × Secure O k
Secure O (output c e k) = (O.sees c ≡ true → Known O e) × Secure O k
Secure O (branch w e p q k) = ((Known O e × Secure O p × Secure O q) ⊎ (Hidden O p × Hidden O q)) × Secure O k
Secure O (repeat e p k) = ((Known O e × Secure O p) ⊎ Hidden O p) × Secure O k

module _ (O : Observer) where
  pub same_value : (x : ℕ) {r s : List ℕ} → Agree O r s → (e : Expr) → Known O e → value x r e ≡ value x s e
  same_value x a input h = refl
  same_value x a (constant k) h = refl
  same_value x a (variable v) h = a.same v h
  same_value x a (binary o l r) h = ap₂ (applied o) (same_value x a l h.0) (same_value x a r h.1)

  pub hidden-⨟ : (p k : Block) → Hidden O p → Hidden O k → Hidden O (p ⨟ k)
  hidden-⨟ done k h t = t
  hidden-⨟ (skip p) k h t = hidden-⨟ p k h t
  hidden-⨟ (assign v e p) k h t = (h.0, hidden-⨟ p k h.1 t)
  hidden-⨟ (output c e p) k h t = (h.0, hidden-⨟ p k h.1 t)
  hidden-⨟ (branch w e a b p) k h t = (h.0, h.1, hidden-⨟ p k h.2 t)
  hidden-⨟ (repeat e a p) k h t = (h.0, hidden-⨟ p k h.1 t)

  pub secure-⨟ : (p k : Block) → Secure O p → Secure O k → Secure O (p ⨟ k)
  secure-⨟ done k h t = t
  secure-⨟ (skip p) k h t = secure-⨟ p k h t
  secure-⨟ (assign v e p) k h t = (h.0, secure-⨟ p k h.1 t)
  secure-⨟ (output c e p) k h t = (h.0, secure-⨟ p k h.1 t)
  secure-⨟ (branch w e a b p) k h t = (h.0, secure-⨟ p k h.1 t)
  secure-⨟ (repeat e a p) k h t = (h.0, secure-⨟ p k h.1 t)
