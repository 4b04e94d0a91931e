-- A run stalls only where its steps are spent or its tickets are all made. Assumes nothing.
use Rattle.std.proofs.Common.{◌≡◌, ℕ, zero, suc, ◌-◌, ◌≤◌, Bool, true, false, cond, ltb, ◌⊎◌, List, [], ◌∷◌, ◌++◌, length, refl, inl, inr, arith, length-append}
use Rattle.std.proofs.lemmas.Bool.{ltb-true, ltb-false, false≢true}
use Rattle.ticket.specs.declared.Ticket.{Ticket}
use Rattle.language.specs.Block.{Tree, handler_of}
use Rattle.language.specs.Step.{Command, command, Action, silent, sends, step, is_busy, Ending, ended, stalled, act, iterate, outcome, reaction}
use Rattle.language.specs.Laws.{StallsOnlyWhenSpent}

-- of n steps some are left; a stall leaves none, or has made sixteen tickets
abbrev Sparing : ℕ → Ending → Type 0
Sparing n (ended left s o) = (left ≤ n) × (length o ≤ 16)
Sparing n (stalled left s o) = (left ≤ n) × (length o ≤ 16) × ((left ≡ 0) ⊎ (length o ≡ 16))

more : (n : ℕ) (r : Ending) → Sparing n r → Sparing (suc n) r
more n (ended left s o) h = (omega arith, h.1)
more n (stalled left s o) h = (omega arith, h.1, h.2)

acted : (go : List ℕ → List Ticket → Command → Ending) (n : ℕ) (s : List ℕ) (o : List Ticket) (a : Action) (s' : List ℕ) (c : Command) → length o ≤ 16 → ((o : List Ticket) → length o ≤ 16 → Sparing n (go s' o c)) → Sparing (suc n) (act go (suc n) s o a s' c)
acted go n s o silent s' c few ih = more n (go s' o c) (ih o few)
acted go n s o (sends t) s' c few ih = room (ltb (length o) 16) refl where
  room : (b : Bool) → ltb (length o) 16 ≡ b → Sparing (suc n) (cond b (go s' (o ++ t ∷ []) c) (stalled (suc n) s o))
  room true h = more n (go s' (o ++ t ∷ []) c) (ih (o ++ t ∷ []) (omega (arith, length-append o (t ∷ []), ltb-true _ _ h)))
  room false h = (omega arith, few, inr (omega (arith, ltb-false _ _ h)))

sparing : (x n : ℕ) (s : List ℕ) (o : List Ticket) (c : Command) → length o ≤ 16 → Sparing n (iterate x n s o c)
sparing x zero s o c few = at_end (is_busy c) where
  at_end : (b : Bool) → Sparing zero (cond b (stalled zero s o) (ended zero s o))
  at_end true = (omega arith, few, inl refl)
  at_end false = (omega arith, few)
sparing x (suc n) s o c few = going (λ s o c few. sparing x n s o c few) (is_busy c) where
  going : ((s : List ℕ) (o : List Ticket) (c : Command) → length o ≤ 16 → Sparing n (iterate x n s o c)) → (b : Bool)
      → Sparing (suc n) (cond b (act (iterate x n) (suc n) s o (step x s c).action (step x s c).store (step x s c).rest) (ended (suc n) s o))
  going ih true = acted (iterate x n) n s o (step x s c).action (step x s c).store (step x s c).rest few (λ o few. ih (step x s c).store o (step x s c).rest few)
  going ih false = (omega arith, few)

told : (n : ℕ) (r : Ending) → Sparing n r
    → ((outcome n r).steps ≤ n) × ((outcome n r).stalled ≡ true → ((outcome n r).steps ≡ n) ⊎ (length (outcome n r).made ≡ 16)) × (length (outcome n r).made ≤ 16)
told n (ended left s o) h = (omega arith, (λ e. absurd (false≢true e)), h.1)
told n (stalled left s o) h = (omega arith, (λ _. either h.2), h.1) where
  either : (left ≡ 0) ⊎ (length o ≡ 16) → (n - left ≡ n) ⊎ (length o ≡ 16)
  either (inl e) = inl (omega arith)
  either (inr e) = inr e

pub stalls_only_when_spent : StallsOnlyWhenSpent
stalls_only_when_spent p words t n =
    let all = told n (iterate t.value n words [] (command (handler_of p t.channel))) (sparing t.value n words [] (command (handler_of p t.channel)) (omega arith)) in
    record { allowed = all.0; spent = all.1 }

-- a reaction makes at most sixteen tickets
pub reaction_few : (p : Tree) (words : List ℕ) (t : Ticket) (n : ℕ) → length (reaction p words t n).made ≤ 16
reaction_few p words t n = (told n (iterate t.value n words [] (command (handler_of p t.channel))) (sparing t.value n words [] (command (handler_of p t.channel)) (omega arith))).2
