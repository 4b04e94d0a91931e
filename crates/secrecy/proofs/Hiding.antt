-- A run through a block that writes nothing an observer sees. Assumes nothing.
use Rattle.std.proofs.Common.{◌≡◌, ℕ, zero, suc, ◌≤◌, cond, eqb, ltb, List, ◌++◌, length, set, sym, refl, ap, ◌∙◌, subst, arith}
use Rattle.std.proofs.lemmas.Bool.{cond_both}
use Rattle.ticket.specs.declared.Ticket.{Ticket}
use Rattle.language.specs.Expression.{value}
use Rattle.language.specs.Block.{Block, done, skip, assign, output, branch, repeat, ◌⨟◌}
use Rattle.language.specs.Step.{Ending, stalled, outcome}
use Rattle.language.specs.Run.{run}
use Rattle.language.proofs.Blocks.{run_done, ⨟-done}
use Rattle.secrecy.specs.Observer.{Observer, seen, Agree}
use Rattle.secrecy.proofs.Agreeing.{single, agree_refl, agree_trans, agree_hidden, seen_hidden}
use Rattle.secrecy.proofs.Blocks.{⨟-assoc, Hidden, hidden-⨟}

-- R, a run from (n, s, o), stalls or comes to l, and the observer sees nothing of it
pub data Through (O : Observer) (x : ℕ) (l : Block) (R : Ending) (n : ℕ) (s : List ℕ) (o : List Ticket) : Type 0 where
  stalls : (k : ℕ) (r : List ℕ) (q : List Ticket) → R ≡ stalled k r q → Agree O r s → seen O q ≡ seen O o → Through O x l R n s o
  comes : (k : ℕ) (r : List ℕ) (q : List Ticket) → R ≡ run x k r q l → k ≤ n → Agree O r s → seen O q ≡ seen O o → Through O x l R n s o

module _ (O : Observer) (x : ℕ) (l : Block) where
  -- one step more before it
  after_step : {R : Ending} {n : ℕ} {s : List ℕ} {o : List Ticket} (s' : List ℕ) (o' : List Ticket) → Agree O s s' → seen O o ≡ seen O o'
      → Through O x l R n s o → Through O x l R (suc n) s' o'
  after_step s' o' a e (stalls k r q is b f) = stalls k r q is (agree_trans O b a) (f ∙ e)
  after_step s' o' a e (comes k r q is h b f) = comes k r q is (omega arith) (agree_trans O b a) (f ∙ e)

  at_once : (n : ℕ) (s : List ℕ) (o : List Ticket) → Through O x l (stalled n s o) n s o
  at_once n s o = stalls n s o refl (agree_refl O s) refl

  pub through : (n : ℕ) (s : List ℕ) (o : List Ticket) (h : Block) → Hidden O h → Through O x l (run x n s o (h ⨟ l)) n s o
  through zero s o done t = comes zero s o refl (omega arith) (agree_refl O s) refl
  through zero s o (skip k) t = at_once 0 s o
  through zero s o (assign v e k) t = at_once 0 s o
  through zero s o (output c e k) t = at_once 0 s o
  through zero s o (branch w e p q k) t = at_once 0 s o
  through zero s o (repeat e p k) t = at_once 0 s o
  through (suc n) s o done t = comes (suc n) s o refl (omega arith) (agree_refl O s) refl
  through (suc n) s o (skip k) t = after_step s o (agree_refl O s) refl (through n s o k t)
  through (suc n) s o (assign v e k) t = after_step s o (agree_hidden O s v (value x s e) t.0) refl (through n (set s v (value x s e)) o k t.1)
  through (suc n) s o (output c e k) t =
      let one = single c (value x s e) in
      cond_both (ltb (length o) 16) (run x n s (o ++ one) (k ⨟ l)) (stalled (suc n) s o) (λ R. Through O x l R (suc n) s o)
      (λ _. after_step s o (agree_refl O s) (seen_hidden O o c (value x s e) t.0) (through n s (o ++ one) k t.1))
      (λ _. at_once (suc n) s o)
  through (suc n) s o (branch w e p q k) t =
      let b = cond (eqb (value x s e) 0) q p in
      let hb : Hidden O b = cond_both (eqb (value x s e) 0) q p (Hidden O) (λ _. t.1) (λ _. t.0) in
      after_step s o (agree_refl O s) refl
      (subst (λ (b : Block). Through O x l (run x n s o b) n s o) (⨟-assoc b k l) (through n s o (b ⨟ k) (hidden-⨟ O b k hb t.2)))
  through (suc n) s o (repeat e p k) t =
      after_step s o (agree_refl O s) refl
      (cond_both (eqb (value x s e) 0) (k ⨟ l) (p ⨟ repeat e p (k ⨟ l)) (λ b. Through O x l (run x n s o b) n s o)
      (λ _. through n s o k t.1)
      (λ _. subst (λ (b : Block). Through O x l (run x n s o b) n s o) (⨟-assoc p (repeat e p k) l) (through n s o (p ⨟ repeat e p k) (hidden-⨟ O p (repeat e p k) t.0 t))))

-- a whole run of such a block is not noticed
pub run_unnoticed : (O : Observer) (x a n : ℕ) (s : List ℕ) (o : List Ticket) (h : Block) → Hidden O h
    → (seen O (outcome a (run x n s o h)).made ≡ seen O o) × Agree O (outcome a (run x n s o h)).words s
run_unnoticed O x a n s o h t = elim (subst (λ (b : Block). Through O x done (run x n s o b) n s o) (⨟-done h) (through O x done n s o h t)) [
  | stalls k r q is g e ↦ (ap (λ R. seen O (outcome a R).made) is ∙ e, subst (λ (R : Ending). Agree O (outcome a R).words s) (sym is) g)
  | comes k r q is b g e ↦
      let ends = is ∙ run_done x k r q in
      (ap (λ R. seen O (outcome a R).made) ends ∙ e, subst (λ (R : Ending). Agree O (outcome a R).words s) (sym ends) g)
]
