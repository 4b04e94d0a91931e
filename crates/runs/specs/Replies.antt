-- What a monitor gives back to each call of a list, worked out from the list alone. Assumes nothing.
use Rattle.std.specs.Prelude.{ℕ, ◌-◌, cond, List, [], ◌++◌, length, drop, replicate, Ok, Err, Result}
use Rattle.fault.specs.declared.Fault.{Fault}
use Rattle.fault.specs.declared.Reason.TheVariants as reason
use Rattle.fault.specs.Faults.{unplaced}
use Rattle.ticket.specs.declared.Ticket.{Ticket}
use Rattle.runs.specs.Setting.{Setting, seen}
use Rattle.runs.specs.Calls.{Call, hand_in, ask_state, ticket_in, proper_tickets}
use Rattle.runs.specs.Lists.{along, joined}
use Rattle.runs.specs.Clashes.{matched}
use Rattle.runs.specs.Verdicts.{Verdict, verdict}
use Rattle.runs.specs.States.{State, closed, state_after, is_running}

-- the answer to a hand-in that is taken, to one that is refused, and to a state call
pub data Answer : Type 0 where
  brought : Verdict → Answer
  refused : Fault → Answer
  told : State → Answer

-- what a call gives back: its answer, the tickets released, and what its slip then holds
pub record Reply : Type 0 where
  pub answer : Answer
  pub released : List Ticket
  pub slip : List Ticket

abbrev pub blank : Ticket
blank = record { channel = 0; value = 0 }

-- the released tickets, zeros up to the sixteenth place, and beyond that what it held
abbrev pub filled : List Ticket → List Ticket → List Ticket
filled released slip = released ++ (replicate (16 - length released) blank ++ drop 16 slip)

-- a refusal releases nothing and leaves the slip as it was
abbrev pub refusal : Fault → List Ticket → Reply
refusal f slip = record { answer = refused f; released = []; slip = slip }

-- a hand-in that is taken tells what its ticket brings
abbrev pub taking : Setting → List Ticket → Ticket → List Ticket → Reply
taking w before t slip =
    record { answer = brought (verdict w before t); released = matched w before t; slip = filled (matched w before t) slip }

-- 8, 11 and 12 as they were found, then 13 after an alarm or a stall
abbrev pub reply_to : Setting → List Ticket → List Ticket → Result Ticket Fault → Reply
reply_to w before slip (Ok t) = cond (is_running (state_after w before)) (taking w before t slip) (refusal (unplaced reason.Halted) slip)
reply_to w before slip (Err f) = refusal f slip

-- what a call gives back behind a list of calls; a state call has no slip and alters nothing
abbrev pub reply : Setting → List Call → Call → Reply
reply w before (hand_in bytes slip) = reply_to w (proper_tickets before) slip (ticket_in bytes slip)
reply w before ask_state = record { answer = told (state_after w (proper_tickets before)); released = []; slip = [] }

-- what each call of a list gives back, in order
abbrev pub replies : Setting → List Call → List Reply
replies w calls = along (reply w) calls

-- the tickets released over a list, in order
abbrev pub all_released : Setting → List Call → List Ticket
all_released w calls = joined (along (λ before c. (reply w before c).released) calls)

-- those that level m sees
abbrev pub released_to : Setting → ℕ → List Call → List Ticket
released_to w m calls = seen w m (all_released w calls)

-- a closed monitor refuses each hand-in, by 13 where 8, 11 and 12 do not
abbrev pub closed_to : List Ticket → Result Ticket Fault → Reply
closed_to slip (Ok t) = refusal (unplaced reason.Halted) slip
closed_to slip (Err f) = refusal f slip

abbrev pub closed_reply : Call → Reply
closed_reply (hand_in bytes slip) = closed_to slip (ticket_in bytes slip)
closed_reply ask_state = record { answer = told closed; released = []; slip = [] }
