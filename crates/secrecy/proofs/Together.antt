-- Two runs of a secure block from stores that agree are alike. Assumes nothing.
use Rattle.std.proofs.Common.{◌≡◌, ℕ, zero, suc, ◌≤◌, Bool, true, false, cond, eqb, ltb, ◌⊎◌, List, ◌++◌, length, set, sym, refl, ap, ◌∙◌, subst, inl, inr, arith}
use mathlib.Core.Path.{subst⁻¹}
use Rattle.std.proofs.lemmas.Bool.{cond_both}
use Rattle.ticket.specs.declared.Ticket.{Ticket}
use Rattle.language.specs.Expression.{Expr, value}
use Rattle.language.specs.Block.{Block, done, skip, assign, output, branch, repeat, ◌⨟◌}
use Rattle.language.specs.Step.{Ending, stalled, outcome}
use Rattle.language.specs.Run.{run}
use Rattle.secrecy.specs.Observer.{Observer, seen, Agree}
use Rattle.secrecy.specs.Alike.{Beginning}
use Rattle.secrecy.proofs.Agreeing.{single, agree_sym, agree_trans, agree_set, seen_output, seen_begins}
use Rattle.secrecy.proofs.Blocks.{⨟-assoc, Known, Hidden, Secure, same_value, hidden-⨟, secure-⨟}
use Rattle.secrecy.proofs.Hiding.{Through, stalls, comes, through}
use Rattle.secrecy.proofs.Outcomes.{alike_sym, alike_stalled, EndsAlike, ended_alike, run_grows, stalled_alike, spent_alike}

-- a loop as a branch before what follows it
unrolled : (t : Bool) (e : Expr) (p k : Block) → cond t done (p ⨟ repeat e p done) ⨟ k ≡ cond t k (p ⨟ repeat e p k)
unrolled true e p k = refl
unrolled false e p k = ⨟-assoc p (repeat e p done) k

module _ (O : Observer) (x : ℕ) where
  -- runs from stores that agree are alike, where the first has at most d steps
  abbrev AlikeFrom : ℕ → Block → Type 0
  AlikeFrom d l = (n k : ℕ) → n ≤ d → (r s : List ℕ) (o q : List Ticket) → Agree O r s → seen O o ≡ seen O q → EndsAlike O (run x n r o l) (run x k s q l)

  -- two runs, each through a hidden block, to the same block
  meet : (d : ℕ) (l : Block) → AlikeFrom d l → (a b : Block) (n k : ℕ) → n ≤ d → (r s : List ℕ) (o q : List Ticket) → Agree O r s → seen O o ≡ seen O q
      → Through O x l (run x n r o a) n r o → Through O x l (run x k s q b) k s q → EndsAlike O (run x n r o a) (run x k s q b)
  meet d l ih a b n k h r s o q g e (stalls n' r' o' is ag eo) t =
      subst⁻¹ (λ (R : Ending). EndsAlike O R (run x k s q b)) is (stalled_alike O n' r' o' x k s q b (eo ∙ e))
  meet d l ih a b n k h r s o q g e (comes n' r' o' is le ag eo) (stalls k' s' q' js bg eq) =
      subst⁻¹ (λ (R : Ending). EndsAlike O (run x n r o a) R) js (λ i j. alike_sym O (stalled_alike O k' s' q' x n r o a (eq ∙ sym e) j i))
  meet d l ih a b n k h r s o q g e (comes n' r' o' is le ag eo) (comes k' s' q' js lf bg eq) =
      subst⁻¹ (λ (R : Ending). EndsAlike O (run x n r o a) R) js
      (subst⁻¹ (λ (R : Ending). EndsAlike O R (run x k' s' q' l)) is
      (ih n' k' (omega arith) r' s' o' q' (agree_trans O ag (agree_trans O g (agree_sym O bg))) (eo ∙ e ∙ sym eq)))

  -- a test that the observer knows goes the same way on both sides, and any other opens hidden blocks on both
  chosen : (d : ℕ) (l : Block) (c : Expr) (a b : Block) → ((l : Block) → Secure O l → AlikeFrom d l)
      → (Known O c × Secure O a × Secure O b) ⊎ (Hidden O a × Hidden O b) → Secure O l
      → (n k : ℕ) → n ≤ d → (r s : List ℕ) (o q : List Ticket) → Agree O r s → seen O o ≡ seen O q
      → EndsAlike O (run x n r o (cond (eqb (value x r c) 0) b a ⨟ l)) (run x k s q (cond (eqb (value x s c) 0) b a ⨟ l))
  chosen d l c a b ih (inl t) sl n k h r s o q g e =
      let z = eqb (value x r c) 0 in
      subst (λ (y : Bool). EndsAlike O (run x n r o (cond z b a ⨟ l)) (run x k s q (cond y b a ⨟ l))) (ap (λ v. eqb v 0) (same_value O x g c t.0))
      (ih (cond z b a ⨟ l) (secure-⨟ O (cond z b a) l (cond_both z b a (Secure O) (λ _. t.2) (λ _. t.1)) sl) n k h r s o q g e)
  chosen d l c a b ih (inr t) sl n k h r s o q g e =
      let z = eqb (value x r c) 0 in
      let y = eqb (value x s c) 0 in
      meet d l (ih l sl) (cond z b a ⨟ l) (cond y b a ⨟ l) n k h r s o q g e
      (through O x l n r o (cond z b a) (cond_both z b a (Hidden O) (λ _. t.1) (λ _. t.0)))
      (through O x l k s q (cond y b a) (cond_both y b a (Hidden O) (λ _. t.1) (λ _. t.0)))

  -- a loop is as secure as the branch that it unrolls to
  unrolled_secure : (c : Expr) (a : Block) → (Known O c × Secure O a) ⊎ Hidden O a
      → (Known O c × Secure O (a ⨟ repeat c a done) × Secure O done) ⊎ (Hidden O (a ⨟ repeat c a done) × Hidden O done)
  unrolled_secure c a (inl t) = inl (t.0, secure-⨟ O a (repeat c a done) t.1 (inl t, tt), tt)
  unrolled_secure c a (inr t) = inr (hidden-⨟ O a (repeat c a done) t (t, tt), tt)

  pub runs_alike : (d : ℕ) (l : Block) → Secure O l → AlikeFrom d l
  runs_alike d l t zero k h r s o q g e = spent_alike O l x k r s o q g e
  runs_alike d l t (suc n) zero h r s o q g e = λ i j. alike_sym O (spent_alike O l x (suc n) s r q o (agree_sym O g) (sym e) j i)
  runs_alike zero l t (suc n) (suc k) h r s o q g e = absurd (omega arith)
  runs_alike (suc d) done t (suc n) (suc k) h r s o q g e = ended_alike O (suc n) (suc k) e g
  runs_alike (suc d) (skip l) t (suc n) (suc k) h r s o q g e = runs_alike d l t n k (omega arith) r s o q g e
  runs_alike (suc d) (assign v c l) t (suc n) (suc k) h r s o q g e =
      runs_alike d l t.1 n k (omega arith) (set r v (value x r c)) (set s v (value x s c)) o q
      (agree_set O v (value x r c) (value x s c) (λ y. same_value O x g c (t.0 y)) g) e
  runs_alike (suc d) (output v c l) t (suc n) (suc k) h r s o q g e =
      let i = value x r c in
      let j = value x s c in
      cond_both (ltb (length o) 16) (run x n r (o ++ single v i) l) (stalled (suc n) r o) (λ R. EndsAlike O R (run x (suc k) s q (output v c l)))
      (λ _.
      cond_both (ltb (length q) 16) (run x k s (q ++ single v j) l) (stalled (suc k) s q) (λ R. EndsAlike O (run x n r (o ++ single v i) l) R)
      (λ _. runs_alike d l t.1 n k (omega arith) r s (o ++ single v i) (q ++ single v j) g (seen_output O o q v i j (λ y. same_value O x g c (t.0 y)) e))
      (λ _ y z.
      alike_sym O
      (alike_stalled O (outcome z (stalled (suc k) s q)) (outcome y (run x n r (o ++ single v i) l)) refl
      (subst (λ (ts : List Ticket). Beginning ts (seen O (outcome y (run x n r (o ++ single v i) l)).made)) e
      (seen_begins O o v i (seen O (outcome y (run x n r (o ++ single v i) l)).made) (run_grows O x y n r (o ++ single v i) l))))))
      (λ _. stalled_alike O (suc n) r o x (suc k) s q (output v c l) e)
  runs_alike (suc d) (branch w c a b l) t (suc n) (suc k) h r s o q g e =
      chosen d l c a b (runs_alike d) t.0 t.1 n k (omega arith) r s o q g e
  runs_alike (suc d) (repeat c a l) t (suc n) (suc k) h r s o q g e =
      rw (sym (unrolled (eqb (value x r c) 0) c a l), sym (unrolled (eqb (value x s c) 0) c a l))
      (chosen d l c (a ⨟ repeat c a done) done (runs_alike d) (unrolled_secure c a t.0) t.1 n k (omega arith) r s o q g e)
