-- What holds of every run. Assumes nothing.
use Rattle.std.specs.Prelude.{◌≡◌, ℕ, ◌≤◌, true, ◌⊎◌, List, length}
use Rattle.ticket.specs.declared.Ticket.{Ticket}
use Rattle.language.specs.Block.{Block, Tree}
use Rattle.language.specs.Step.{command, iterate, reaction}
use Rattle.language.specs.Run.{run}

abbrev pub RunIsIteratedStep : Type 0
RunIsIteratedStep = (x n : ℕ) (s : List ℕ) (o : List Ticket) (b : Block) → iterate x n s o (command b) ≡ run x n s o b

-- a reaction takes no more steps than it is allowed, and stalls only where they are spent or sixteen tickets are made
pub record StallsOnlySpent (p : Tree) (words : List ℕ) (t : Ticket) (n : ℕ) : Type 0 where
  pub allowed : (reaction p words t n).steps ≤ n
  pub spent : (reaction p words t n).stalled ≡ true → ((reaction p words t n).steps ≡ n) ⊎ (length (reaction p words t n).made ≡ 16)

abbrev pub StallsOnlyWhenSpent : Type 0
StallsOnlyWhenSpent = (p : Tree) (words : List ℕ) (t : Ticket) (n : ℕ) → StallsOnlySpent p words t n
