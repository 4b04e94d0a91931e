-- The calls of an open monitor, and the tickets that they bring. Assumes nothing.
use Rattle.std.specs.Prelude.{◌≡◌, ℕ, cond, List, [], ◌∷◌, ◌++◌, length, Ok, Err, Result, nat_lt}
use Rattle.fault.specs.declared.Fault.{Fault}
use Rattle.fault.specs.declared.Reason.TheVariants as reason
use Rattle.fault.specs.Faults.{unplaced}
use Rattle.ticket.specs.declared.Ticket.{Ticket}
use Rattle.ticket.specs.Tickets.{decoded_in}
use Rattle.runs.specs.Setting.{Setting, seen}

-- a hand-in of some bytes with a slip lent for the tickets released, or a state call
pub data Call : Type 0 where
  hand_in : List ℕ → List Ticket → Call
  ask_state : Call

-- 8 where fewer than sixteen tickets are lent, then 11 and 12 as the bytes are decoded
abbrev pub ticket_in : List ℕ → List Ticket → Result Ticket Fault
ticket_in bytes slip = cond (nat_lt (length slip) 16) (Err (unplaced reason.Slip)) (decoded_in bytes)

abbrev pub accepted : Result Ticket Fault → List Ticket
accepted (Ok t) = t ∷ []
accepted (Err f) = []

abbrev pub proper_ticket : Call → List Ticket
proper_ticket (hand_in bytes slip) = accepted (ticket_in bytes slip)
proper_ticket ask_state = []

-- the tickets of the hand-ins that 8, 11 and 12 do not refuse, in order
abbrev pub proper_tickets : List Call → List Ticket
proper_tickets [] = []
proper_tickets (c ∷ cs) = proper_ticket c ++ proper_tickets cs

-- the call hands in the proper ticket t
abbrev pub HandsIn : Call → Ticket → Type 0
HandsIn c t = proper_ticket c ≡ t ∷ []

-- the proper tickets that level m sees are the same, in order
abbrev pub AgreeAt : Setting → ℕ → List Call → List Call → Type 0
AgreeAt w m cs ds = seen w m (proper_tickets cs) ≡ seen w m (proper_tickets ds)
