-- What an observer can tell of two reactions. Assumes nothing.
use Rattle.std.specs.Prelude.{◌≡◌, ℕ, true, false, ◌⊎◌, List, [], ◌++◌}
use Rattle.ticket.specs.declared.Ticket.{Ticket}
use Rattle.machine.specs.Meaning.{Outcome}
use Rattle.language.specs.Block.{Tree}
use Rattle.language.specs.Step.{reaction}
use Rattle.secrecy.specs.Observer.{Observer, seen, Agree}

-- xs is a beginning of ys
pub record Beginning (xs ys : List Ticket) : Type 0 where
  pub rest : List Ticket
  pub joined : xs ++ rest ≡ ys

-- an observer sees the same of two outcomes, as far as a stall lets each of them go
pub record Alike (O : Observer) (a b : Outcome) : Type 0 where
  pub both_ended : a.stalled ≡ false → b.stalled ≡ false → (seen O a.made ≡ seen O b.made) × Agree O a.words b.words
  pub left_stalled : a.stalled ≡ true → b.stalled ≡ false → Beginning (seen O a.made) (seen O b.made)
  pub right_stalled : a.stalled ≡ false → b.stalled ≡ true → Beginning (seen O b.made) (seen O a.made)
  pub both_stalled : a.stalled ≡ true → b.stalled ≡ true → Beginning (seen O a.made) (seen O b.made) ⊎ Beginning (seen O b.made) (seen O a.made)

-- an observer learns from a program only what it sees: fed the same ticket, in stores that agree and with any two allowances, the program reacts alike;
-- fed a ticket that the observer does not see, it makes nothing that the observer sees and leaves a store that agrees with the one before
pub record KeepsApart (O : Observer) (p : Tree) : Type 0 where
  pub same_ticket_alike : (t : Ticket) (n k : ℕ) (r s : List ℕ) → Agree O r s → Alike O (reaction p r t n) (reaction p s t k)
  pub unseen_ticket_unnoticed : (t : Ticket) (n : ℕ) (s : List ℕ) → O.sees t.channel ≡ false
      → (seen O (reaction p s t n).made ≡ []) × Agree O (reaction p s t n).words s
