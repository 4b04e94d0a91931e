-- Refusals with their place in a text. Assumes nothing.
use Rattle.std.specs.Prelude.{ℕ}
use Rattle.fault.specs.declared.Fault.{Fault}
use Rattle.fault.specs.declared.Reason.{Reason}
use Rattle.fault.specs.declared.Reason.TheVariants as reason

abbrev pub placed : Reason → ℕ → ℕ → Fault
placed reason line field = record { reason = reason; line = line; field = field }

-- a ragged line has no field, a line that is refused as a whole its letter, a second entry its name; the others have their own
abbrev pub ragged_at : ℕ → Fault
ragged_at n = placed reason.Ragged n 0

abbrev pub letter_at : ℕ → Fault
letter_at n = placed reason.Letter n 1

abbrev pub field_at : ℕ → ℕ → Fault
field_at n k = placed reason.Field n k

abbrev pub nest_at : ℕ → Fault
nest_at n = placed reason.Nest n 1

abbrev pub twice_at : ℕ → Fault
twice_at n = placed reason.Twice n 2

abbrev pub level_at : ℕ → ℕ → Fault
level_at n k = placed reason.Level n k

abbrev pub full_at : ℕ → Fault
full_at n = placed reason.Full n 1
