-- What an observer at a level sees of tickets and stores. Assumes nothing.
use Rattle.std.specs.Prelude.{◌≡◌, ℕ, Bool, true, List, length, filter, slice_index}
use Rattle.ticket.specs.declared.Ticket.{Ticket}
use Rattle.typing.specs.Labels.{Labels}

-- one that sees some of the channels and reads some of the variables
pub record Observer : Type 0 where
  pub sees : ℕ → Bool
  pub reads : ℕ → Bool

-- the observer at a level sees the channels and reads the variables whose levels are at or below it
abbrev pub observer : Labels → ℕ → Observer
observer labels m = record { sees = λ c. labels.scheme.below (labels.of_channel c) m; reads = λ v. labels.scheme.below (labels.of_variable v) m }

-- the tickets of a list on channels that it sees, in order
abbrev pub seen : Observer → List Ticket → List Ticket
seen O = filter (λ t. O.sees t.channel)

-- two stores that are the same in all that it reads
pub record Agree (O : Observer) (r s : List ℕ) : Type 0 where
  pub as_long : length r ≡ length s
  pub same : (v : ℕ) → O.reads v ≡ true → slice_index r v ≡ slice_index s v
