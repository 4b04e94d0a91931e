-- What a reaction answers and leaves: its meaning, and the slip beyond its tickets as it was. Assumes nothing.
use Rattle.std.specs.Prelude.{◌≡◌, ℕ, List, ◌++◌, length, drop}
use Rattle.ticket.specs.declared.Ticket.{Ticket}
use Rattle.machine.specs.declared.Reaction.{Reaction}
use Rattle.machine.specs.Meaning.{Outcome}

pub record Reacts (o : Outcome) (slip : List Ticket) (r : Reaction) (words' : List ℕ) (slip' : List Ticket) : Type 0 where
  pub made : r.made ≡ length o.made
  pub steps : r.steps ≡ o.steps
  pub stalled : r.stalled ≡ o.stalled
  pub words : words' ≡ o.words
  pub slip_holds : slip' ≡ o.made ++ drop (length o.made) slip
