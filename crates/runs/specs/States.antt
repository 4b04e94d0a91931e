-- The state of a monitor, and what a list of proper tickets leads it to. Assumes nothing.
use Rattle.std.specs.Prelude.{Bool, true, false, List}
use mathlib.Core.List.{foldl}
use Rattle.ticket.specs.declared.Ticket.{Ticket}
use Rattle.runs.specs.Setting.{Setting}
use Rattle.runs.specs.Lists.{along}
use Rattle.runs.specs.Verdicts.{Alarm, Stall, Verdict, ok, alarm, stall, verdict}

pub data State : Type 0 where
  closed : State
  running : State
  alarmed : Alarm → State
  stalled : Stall → State

-- a running monitor goes to alarmed or stalled on what a ticket brought
abbrev pub goes_on : State → Verdict → State
goes_on closed v = closed
goes_on running ok = running
goes_on running (alarm a) = alarmed a
goes_on running (stall s) = stalled s
goes_on (alarmed a) v = alarmed a
goes_on (stalled s) v = stalled s

-- what a list of proper tickets leads a newly opened monitor to
abbrev pub state_after : Setting → List Ticket → State
state_after w ts = foldl goes_on running (along (verdict w) ts)

abbrev pub is_running : State → Bool
is_running closed = false
is_running running = true
is_running (alarmed a) = false
is_running (stalled s) = false
