-- A reaction before and after one step. Assumes nothing.
use Rattle.std.proofs.Common.{◌≡◌, ℕ, zero, suc, ◌+◌, ◌<◌, ◌≤◌, Ok, Err, length, take, set, sym, ap, ◌∙◌, arith, length-set, length-take}
use Rattle.std.proofs.lemmas.List.{take_more_set}
use Rattle.ticket.specs.declared.Ticket.{Ticket}
use Rattle.language.specs.Block.{Block, assign, output, repeat, ◌⨟◌}
use Rattle.language.specs.Expression.{Expr}
use Rattle.language.specs.Run.{run, after}
use Rattle.interpreter.specs.Jobs.{worth, tickets, start, due, spent, Runs, Reaches}
use Rattle.interpreter.specs.declared.job.Job.{Job}
use Rattle.interpreter.specs.declared.job.Stalled.{Stalled}
use Rattle.interpreter.proofs.Chains.{reaches_on}
use Rattle.interpreter.proofs.Keeping.{keeps_all, keeps_on, keeps_spent, stored, keeps_stored, sent, keeps_sent}
use Rattle.interpreter.proofs.Steps.{one, full, other_way, less_way}

abbrev ticket : ℕ → ℕ → Ticket
ticket c v = record { channel = c; value = v }

-- a step that is due is one of those left
falls : (n : ℕ) → Ok tt ≡ due n → 0 < n
falls zero e = cc
falls (suc n) e = omega arith

-- j is to take a step, and j' is what that leaves
module _ (j j' : Job) (job : j' ≡ spent j) where
  -- there is one
  module _ (is_due : Ok tt ≡ due j.left) where
    step : (b : Block) → start j b ≡ after j'.input (run j'.input j'.left) j.left j'.words (tickets j') b
    step b = rw job (one j.input j.left j.words (tickets j) b (falls j.left is_due))

    -- a repeat that is reached goes on to its block where its test holds
    pub turned : (i : Job) (e : Expr) (p : Block) → Reaches i (repeat e p) j (repeat e p) → (worth j' e ≡ 0 → ⊥) → Reaches i (repeat e p) j' (λ k. p ⨟ repeat e p k)
    turned i e p come h =
        reaches_on i j j' (repeat e p) (repeat e p) come (λ k. p ⨟ repeat e p k)
        (record { keeps = keeps_spent j j' job; as_told = λ k. step (repeat e p k) ∙ ap (start j') (other_way (worth j' e) k (p ⨟ repeat e p k) h) })

    pub assign_runs : (v w : ℕ) (e : Expr) (room : j'.made ≤ length j'.slip) → w ≡ worth j' e → Runs j (assign v e) (Ok tt) (stored j' v w room)
    assign_runs v w e room is = record {
      keeps = keeps_on j j' (stored j' v w room) (keeps_spent j j' job) (keeps_stored j' v w room);
      as_told = λ k. step (assign v e k) ∙ ap (λ u. start (stored j' v u room) k) (sym is);
    }

    pub output_runs : j.made < 16 → (c v : ℕ) (e : Expr) (room : j'.made + 1 ≤ length (set j'.slip j'.made (ticket c v)))
        → v ≡ worth j' e → Runs j (output c e) (Ok tt) (sent j' (ticket c v) room)
    output_runs few c v e room is =
        let inside : j'.made < length j'.slip = omega (arith, length-set {A = Ticket}) in
        let s : length (tickets j') < 16 = omega (arith, length-take j'.made j'.slip, ap (λ i. i.made) job) in
        record {
          keeps = keeps_on j j' (sent j' (ticket c v) room) (keeps_spent j j' job) (keeps_sent j' (ticket c v) room);
          as_told = λ k.
              step (output c e k)
              ∙ less_way (length (tickets j')) 16 _ _ s
              ∙ ap (λ o. run j'.input j'.left j'.words o k) (sym (take_more_set j'.slip j'.made (ticket c (worth j' e)) inside))
              ∙ ap (λ w. run j'.input j'.left j'.words (take (j'.made + 1) (set j'.slip j'.made (ticket c w))) k) (sym is);
        }

-- a seventeenth ticket
pub full_stalls : (j : Job) (c : ℕ) (e : Expr) (s : Stalled) → j.made ≡ 16 → Runs j (output c e) (Err s) j
full_stalls j c e s h =
    record { keeps = keeps_all j; as_told = λ k. full j.input j.left j.words (tickets j) c e k (omega (arith, j.room, length-take j.made j.slip)) }
