-- What a switch sheet means as a machine: its state is word 0, and the first line that fits decides. Assumes nothing.
use Rattle.std.specs.Prelude.{ℕ, Bool, false, ◌&&◌, List, [], ◌∷◌, Some, None, Option, ◌==◌, nat_le, slice_index, slice_set}
use Rattle.std.specs.List.{find}
use Rattle.machine.specs.Meaning.{Outcome, Meaning}
use Rattle.switch.specs.declared.line.SwitchLine.{SwitchLine}
use Rattle.ticket.specs.declared.Ticket.{Ticket}

abbrev pub fits : ℕ → Ticket → SwitchLine → Bool
fits state t l = l.state == state && (l.channel == t.channel && (nat_le l.low t.value && nat_le t.value l.high))

abbrev pub first_fit : ℕ → Ticket → List SwitchLine → Option SwitchLine
first_fit state t lines = find (fits state t) lines

abbrev pub made_by : Option ℕ → ℕ → List Ticket
made_by None value = []
made_by (Some channel) value = record { channel = channel; value = value } ∷ []

-- the line sets the state and makes its ticket; without a line nothing alters
abbrev pub outcome_of : List ℕ → Option SwitchLine → Outcome
outcome_of words None = record { made = []; steps = 1; stalled = false; words = words }
outcome_of words (Some l) = record { made = made_by l.out l.value; steps = 1; stalled = false; words = slice_set words 0 l.next }

-- one step, whatever the allowance
abbrev pub switched : List SwitchLine → Meaning
switched lines words t allowance = outcome_of words (first_fit (slice_index words 0) t lines)
