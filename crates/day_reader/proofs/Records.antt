-- The record of a hand-in: eight bytes, which are decoded as its ticket. Assumes nothing.
use Rattle.std.proofs.Common.{◌≡◌, ◌*◌, ◌^◌, ◌<◌, List, [], ◌∷◌, ◌++◌, length, sym, refl, ap, ◌∙◌, append_assoc, append-nil, arith, length-append, rules}
use Rattle.ticket.specs.Tickets.{decoded_in}
use Rattle.day_reader.specs.declared.hand_in.HandIn.{HandIn}
use Rattle.day_reader.specs.HandIns.{record_of, records_of, ticket_if_known}

pub record_has_eight_bytes : (h : HandIn) → length (record_of h) ≡ 8
record_has_eight_bytes h = refl

pub record_decodes : (h : HandIn) → h.value < 2 ^ 32 → decoded_in (record_of h) ≡ ticket_if_known h
record_decodes h f = search rules

pub length_records : (hs : List HandIn) → length (records_of hs) ≡ 8 * length hs
length_records [] = refl
length_records (h ∷ hs) = let e = length-append (record_of h) (records_of hs) in let r = length_records hs in omega arith

pub records_push : (hs : List HandIn) (h : HandIn) → records_of (hs ++ h ∷ []) ≡ records_of hs ++ record_of h
records_push [] h = append-nil (record_of h)
records_push (g ∷ gs) h = ap (λ bs. record_of g ++ bs) (records_push gs h) ∙ sym (append_assoc (record_of g) (records_of gs) (record_of h))
