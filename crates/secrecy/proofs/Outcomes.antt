-- Outcomes that are alike to an observer. Assumes nothing.
use Rattle.std.proofs.Common.{◌≡◌, ℕ, zero, suc, true, false, cond, eqb, ltb, ◌⊎◌, List, [], ◌++◌, length, set, sym, refl, inl, inr, ⊎_elim}
use mathlib.Core.Path.{subst⁻¹}
use Rattle.std.proofs.lemmas.Bool.{both_ways, false≢true, cond_both}
use Rattle.ticket.specs.declared.Ticket.{Ticket}
use Rattle.machine.specs.Meaning.{Outcome}
use Rattle.language.specs.Expression.{value}
use Rattle.language.specs.Block.{Block, done, skip, assign, output, branch, repeat, ◌⨟◌}
use Rattle.language.specs.Step.{Ending, ended, stalled, outcome}
use Rattle.language.specs.Run.{spent, run}
use Rattle.language.proofs.Blocks.{run_done}
use Rattle.secrecy.specs.Observer.{Observer, seen, Agree}
use Rattle.secrecy.specs.Alike.{Beginning, Alike}
use Rattle.secrecy.proofs.Agreeing.{single, begins_itself, agree_sym, seen_begins}

-- with no step left a run ends where nothing is left to do, and else stalls
spent_either : (b : Block) → (b ≡ done) ⊎ ((s : List ℕ) (o : List Ticket) → spent s o b ≡ stalled 0 s o)
spent_either done = inl refl
spent_either (skip k) = inr (λ s o. refl)
spent_either (assign v e k) = inr (λ s o. refl)
spent_either (output c e k) = inr (λ s o. refl)
spent_either (branch w e p q k) = inr (λ s o. refl)
spent_either (repeat e p k) = inr (λ s o. refl)

-- where no ticket is fed
abbrev pub unfed : List ℕ → Outcome
unfed words = record { made = []; steps = 0; stalled = false; words = words }

module _ (O : Observer) where
  pub alike_sym : {a b : Outcome} → Alike O a b → Alike O b a
  alike_sym t = record {
    both_ended = λ e f. let h = t.both_ended f e in (sym h.0, agree_sym O h.1);
    left_stalled = λ e f. t.right_stalled f e;
    right_stalled = λ e f. t.left_stalled f e;
    both_stalled = λ e f. ⊎_elim inr inl (t.both_stalled f e);
  }

  pub alike_stalled : (a b : Outcome) → a.stalled ≡ true → Beginning (seen O a.made) (seen O b.made) → Alike O a b
  alike_stalled a b h begins = record {
    both_ended = λ e _. absurd (both_ways a.stalled e h);
    left_stalled = λ _ _. begins;
    right_stalled = λ e _. absurd (both_ways a.stalled e h);
    both_stalled = λ _ _. inl begins;
  }

  -- an outcome that is not noticed
  pub alike_unfed : (a : Outcome) (s : List ℕ) → seen O a.made ≡ [] → Agree O a.words s → Alike O a (unfed s)
  alike_unfed a s e h = record {
    both_ended = λ _ _. (e, h);
    left_stalled = λ _ _. subst⁻¹ (λ (l : List Ticket). Beginning l []) e (begins_itself []);
    right_stalled = λ _ f. absurd (false≢true f);
    both_stalled = λ _ f. absurd (false≢true f);
  }

  -- two endings are alike as outcomes, whatever the allowances were
  abbrev pub EndsAlike : Ending → Ending → Type 0
  EndsAlike R S = (n k : ℕ) → Alike O (outcome n R) (outcome k S)

  pub ended_alike : (n k : ℕ) {r s : List ℕ} {o q : List Ticket} → seen O o ≡ seen O q → Agree O r s → EndsAlike (ended n r o) (ended k s q)
  ended_alike n k e a = λ _ _. record {
    both_ended = λ _ _. (e, a);
    left_stalled = λ f _. absurd (false≢true f);
    right_stalled = λ _ f. absurd (false≢true f);
    both_stalled = λ f _. absurd (false≢true f);
  }

  -- the tickets that a run makes come after those made before
  pub run_grows : (x a n : ℕ) (s : List ℕ) (o : List Ticket) (b : Block) → Beginning (seen O o) (seen O (outcome a (run x n s o b)).made)
  run_grows x a zero s o b =
      ⊎_elim
      (λ e. subst⁻¹ (λ (b : Block). Beginning (seen O o) (seen O (outcome a (spent s o b)).made)) e (begins_itself (seen O o)))
      (λ e. subst⁻¹ (λ (R : Ending). Beginning (seen O o) (seen O (outcome a R).made)) (e s o) (begins_itself (seen O o)))
      (spent_either b)
  run_grows x a (suc n) s o done = begins_itself (seen O o)
  run_grows x a (suc n) s o (skip k) = run_grows x a n s o k
  run_grows x a (suc n) s o (assign v e k) = run_grows x a n (set s v (value x s e)) o k
  run_grows x a (suc n) s o (output c e k) =
      let u = value x s e in
      cond_both (ltb (length o) 16) (run x n s (o ++ single c u) k) (stalled (suc n) s o) (λ R. Beginning (seen O o) (seen O (outcome a R).made))
      (λ _. seen_begins O o c u (seen O (outcome a (run x n s (o ++ single c u) k)).made) (run_grows x a n s (o ++ single c u) k))
      (λ _. begins_itself (seen O o))
  run_grows x a (suc n) s o (branch w e p q k) = run_grows x a n s o (cond (eqb (value x s e) 0) q p ⨟ k)
  run_grows x a (suc n) s o (repeat e p k) = run_grows x a n s o (cond (eqb (value x s e) 0) k (p ⨟ repeat e p k))

  -- one side stalls where both have made the same
  pub stalled_alike : (n : ℕ) (r : List ℕ) (o : List Ticket) (x k : ℕ) (s : List ℕ) (q : List Ticket) (b : Block) → seen O o ≡ seen O q
      → EndsAlike (stalled n r o) (run x k s q b)
  stalled_alike n r o x k s q b e = λ a c.
      alike_stalled (outcome a (stalled n r o)) (outcome c (run x k s q b)) refl
      (subst⁻¹ (λ (l : List Ticket). Beginning l (seen O (outcome c (run x k s q b)).made)) e (run_grows x c k s q b))

  pub spent_alike : (b : Block) (x k : ℕ) (r s : List ℕ) (o q : List Ticket) → Agree O r s → seen O o ≡ seen O q → EndsAlike (run x 0 r o b) (run x k s q b)
  spent_alike b x k r s o q a e =
      ⊎_elim
      (λ f. subst⁻¹ (λ (b : Block). EndsAlike (run x 0 r o b) (run x k s q b)) f (subst⁻¹ (EndsAlike (ended 0 r o)) (run_done x k s q) (ended_alike 0 k e a)))
      (λ f. subst⁻¹ (λ (R : Ending). EndsAlike R (run x k s q b)) (f r o) (stalled_alike 0 r o x k s q b e))
      (spent_either b)
