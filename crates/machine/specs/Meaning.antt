-- What a reactive machine means: what becomes of its words, one in-ticket and an allowance of steps. Assumes nothing.
use Rattle.std.specs.Prelude.{ℕ, ◌<◌, ◌≤◌, Bool, List, length}
use Rattle.std.specs.List.{AllByRecursion}
use Rattle.ticket.specs.declared.Ticket.{Ticket}

-- the tickets made in order, the steps taken, whether the run stalled, and the words afterwards
pub record Outcome : Type 0 where
  pub made : List Ticket
  pub steps : ℕ
  pub stalled : Bool
  pub words : List ℕ

abbrev pub Meaning : Type 0
Meaning = List ℕ → Ticket → ℕ → Outcome

-- a ticket on one of the channels 16 to 31
abbrev pub Out : Ticket → Type 0
Out t = (16 ≤ t.channel) × (t.channel < 32)

-- a reaction makes at most sixteen tickets, and only out-tickets
pub record Lawful (means : Meaning) : Type 0 where
  pub few : (words : List ℕ) (t : Ticket) (allowance : ℕ) → length (means words t allowance).made ≤ 16
  pub outward : (words : List ℕ) (t : Ticket) (allowance : ℕ) → AllByRecursion Out (means words t allowance).made
