-- The tickets in a run of bytes. Assumes nothing.
use Rattle.std.specs.Prelude.{◌≡◌, ℕ, zero, suc, ◌/◌, ◌%◌, cond, List, [], ◌∷◌, length, take, drop, Ok, Err, Result, ◌==◌}
use Rattle.std.specs.List.{flat_map, AllByRecursion}
use Rattle.fault.specs.declared.Fault.{Fault}
use Rattle.fault.specs.declared.Reason.TheVariants as reason
use Rattle.fault.specs.Faults.{unplaced, then}
use Rattle.ticket.specs.declared.Ticket.{Ticket}
use Rattle.ticket.specs.Tickets.{encoded, decoded, Proper}

-- the first n tickets, or the first refusal among them
abbrev pub tickets_of : ℕ → List ℕ → Result (List Ticket) Fault
tickets_of zero bytes = Ok []
tickets_of (suc n) bytes = then (decoded (take 8 bytes)) (λ t. then (tickets_of n (drop 8 bytes)) (λ ts. Ok (t ∷ ts)))

-- all tickets of a batch, which has to be whole tickets
abbrev pub batch : List ℕ → Result (List Ticket) Fault
batch bytes = cond (length bytes % 8 == 0) (tickets_of (length bytes / 8) bytes) (Err (unplaced reason.Record))

-- the bytes of a batch
abbrev pub encoded_all : List Ticket → List ℕ
encoded_all ts = flat_map encoded ts

-- ts are the tickets that these are the bytes of
abbrev pub Carries : List ℕ → List Ticket → Type 0
Carries bytes ts = (bytes ≡ encoded_all ts) × AllByRecursion Proper ts
