-- A ticket and its eight bytes: channel, mark, four bytes of value with the highest first, two zeros. Assumes nothing.
use Rattle.std.specs.Prelude.{◌≡◌, ℕ, ◌+◌, ◌*◌, ◌/◌, ◌%◌, ◌^◌, ◌<◌, Bool, cond, ◌&&◌, ◌||◌, List, [], ◌∷◌, length, Ok, Err, Result, ◌==◌, ◌≢◌, nat_lt, slice_index}
use Rattle.fault.specs.declared.Fault.{Fault}
use Rattle.fault.specs.declared.Reason.TheVariants as reason
use Rattle.fault.specs.Faults.{unplaced}
use Rattle.ticket.specs.declared.Ticket.{Ticket}

-- channels 0 to 15 are for in-tickets, 16 to 31 for out-tickets
abbrev pub is_in : ℕ → Bool
is_in channel = nat_lt channel 16

-- 73 marks an in-ticket, 79 an out-ticket
abbrev pub mark_of : ℕ → ℕ
mark_of channel = cond (is_in channel) 73 79

abbrev pub encoded : Ticket → List ℕ
encoded t =
    t.channel ∷ mark_of t.channel
    ∷ (t.value / 16777216 % 256) ∷ (t.value / 65536 % 256) ∷ (t.value / 256 % 256) ∷ (t.value % 256)
    ∷ 0 ∷ 0 ∷ []

-- eight bytes with a known mark and two zeros at the end
abbrev pub is_record : List ℕ → Bool
is_record bytes =
    (length bytes == 8) && ((slice_index bytes 1 == 73 || slice_index bytes 1 == 79) && (slice_index bytes 6 == 0 && slice_index bytes 7 == 0))

-- the channel is one that the mark has
abbrev pub has_channel : List ℕ → Bool
has_channel bytes = nat_lt (slice_index bytes 0) 32 && slice_index bytes 1 == mark_of (slice_index bytes 0)

abbrev pub value_in : List ℕ → ℕ
value_in bytes = slice_index bytes 2 * 16777216 + slice_index bytes 3 * 65536 + slice_index bytes 4 * 256 + slice_index bytes 5

abbrev pub decoded : List ℕ → Result Ticket Fault
decoded bytes =
    cond (is_record bytes)
    (cond (has_channel bytes) (Ok (record { channel = slice_index bytes 0; value = value_in bytes })) (Err (unplaced reason.Channel)))
    (Err (unplaced reason.Record))

-- where only in-tickets are wanted, the mark of an out-ticket is wrong
abbrev pub decoded_in : List ℕ → Result Ticket Fault
decoded_in bytes = cond (slice_index bytes 1 == 79) (Err (unplaced reason.Record)) (decoded bytes)

-- a channel that there is, and a value of 32 bits
pub record Proper (t : Ticket) : Type 0 where
  pub known : t.channel < 32
  pub fits : t.value < 2 ^ 32

-- decoding undoes encoding: bytes are accepted as a ticket exactly if they are that ticket's bytes
abbrev pub Decodes : List ℕ → Result Ticket Fault → Type 0
Decodes bytes (Ok t) = Proper t × (bytes ≡ encoded t)
Decodes bytes (Err f) = (t : Ticket) → Proper t → bytes ≢ encoded t
