-- A hand-in of a day, and the eight bytes that carry it. Assumes nothing.
use Rattle.std.specs.Prelude.{ℕ, ◌/◌, ◌%◌, ◌^◌, ◌<◌, cond, List, [], ◌∷◌, ◌++◌, Ok, Err, Result}
use Rattle.fault.specs.declared.Fault.{Fault}
use Rattle.fault.specs.declared.Reason.TheVariants as reason
use Rattle.fault.specs.Faults.{unplaced}
use Rattle.ticket.specs.declared.Ticket.{Ticket}
use Rattle.ticket.specs.Tickets.{is_in}
use Rattle.day_reader.specs.declared.hand_in.HandIn.{HandIn}

-- what a line may hold
pub record Fit (h : HandIn) : Type 0 where
  pub channel : h.channel < 256
  pub value : h.value < 2 ^ 32

-- the mark of an in-ticket, whichever the channel
abbrev pub record_of : HandIn → List ℕ
record_of h =
    h.channel ∷ 73
    ∷ (h.value / 16777216 % 256) ∷ (h.value / 65536 % 256) ∷ (h.value / 256 % 256) ∷ (h.value % 256)
    ∷ 0 ∷ 0 ∷ []

-- one record behind the other
abbrev pub records_of : List HandIn → List ℕ
records_of [] = []
records_of (h ∷ hs) = record_of h ++ records_of hs

-- what the record is decoded as, where only in-tickets are wanted
abbrev pub ticket_if_known : HandIn → Result Ticket Fault
ticket_if_known h = cond (is_in h.channel) (Ok (record { channel = h.channel; value = h.value })) (Err (unplaced reason.Channel))
