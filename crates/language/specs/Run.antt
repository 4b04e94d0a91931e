-- The same run told by blocks, which code and proofs follow. Assumes nothing.
use Rattle.std.specs.Prelude.{ℕ, zero, suc, cond, List, [], ◌∷◌, ◌++◌, length, ◌==◌, nat_lt, slice_set}
use Rattle.ticket.specs.declared.Ticket.{Ticket}
use Rattle.language.specs.Expression.{value}
use Rattle.language.specs.Block.{Block, done, skip, assign, output, branch, repeat, ◌⨟◌}
use Rattle.language.specs.Step.{Ending, ended, stalled}

-- where no step is left
abbrev pub spent : List ℕ → List Ticket → Block → Ending
spent s o done = ended 0 s o
spent s o (skip k) = stalled 0 s o
spent s o (assign v e k) = stalled 0 s o
spent s o (output c e k) = stalled 0 s o
spent s o (branch w e p q k) = stalled 0 s o
spent s o (repeat e p k) = stalled 0 s o

-- one step, and then go on; n steps are left before it
abbrev pub after : ℕ → (List ℕ → List Ticket → Block → Ending) → ℕ → List ℕ → List Ticket → Block → Ending
after x go n s o done = ended n s o
after x go n s o (skip k) = go s o k
after x go n s o (assign v e k) = go (slice_set s v (value x s e)) o k
after x go n s o (output c e k) = cond (nat_lt (length o) 16) (go s (o ++ record { channel = c; value = value x s e } ∷ []) k) (stalled n s o)
after x go n s o (branch w e p q k) = go s o (cond (value x s e == 0) q p ⨟ k)
after x go n s o (repeat e p k) = go s o (cond (value x s e == 0) k (p ⨟ repeat e p k))

abbrev pub run : ℕ → ℕ → List ℕ → List Ticket → Block → Ending
run x zero s o b = spent s o b
run x (suc n) s o b = after x (run x n) (suc n) s o b
