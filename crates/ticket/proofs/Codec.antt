-- Encoding and decoding undo each other. Assumes nothing.
use Rattle.std.proofs.Common.{◌≡◌, ℕ, ◌+◌, ◌*◌, ◌/◌, ◌%◌, ◌^◌, ◌<◌, Bool, true, false, cond, ◌||◌, eqb, ltb, List, [], ◌∷◌, length, get_or, Ok, Err, Result, refl, subst, arith, rules}
use Rattle.std.proofs.lemmas.List.FromFn.{fill_by_all}
use Rattle.std.proofs.lemmas.Bool.{and_parts, eqb-true, ltb-true}
use Rattle.fault.specs.declared.Fault.{Fault}
use Rattle.ticket.specs.declared.Ticket.{Ticket}
use Rattle.ticket.specs.Tickets.{mark_of, encoded, is_record, has_channel, value_in, decoded, Proper}

pub decoded_encoded : (t : Ticket) → Proper t → decoded (encoded t) ≡ Ok t
decoded_encoded t p = search rules

accepted_if : (b d : Bool) (t u : Ticket) (e f : Fault) → ◌≡◌ {A = Result Ticket Fault} (cond b (cond d (Ok t) (Err e)) (Err f)) (Ok u) → (b ≡ true) × (d ≡ true) × (t ≡ u)
accepted_if true true t u e f q = (refl, refl, cc)
accepted_if true false t u e f q = cc
accepted_if false d t u e f q = cc

-- the four bytes of a value
bytes_of_value : (a b c d : ℕ) → a < 256 → b < 256 → c < 256 → d < 256
    → let v : ℕ = a * 16777216 + b * 65536 + c * 256 + d in
    (v < 2 ^ 32) × (v / 16777216 % 256 ≡ a) × (v / 65536 % 256 ≡ b) × (v / 256 % 256 ≡ c) × (v % 256 ≡ d)
bytes_of_value a b c d ha hb hc hd = (omega arith, omega arith, omega arith, omega arith, omega arith)

-- a list of eight bytes, byte by byte
eight : (bytes : List ℕ) → length bytes ≡ 8
    → bytes ≡ get_or bytes 0 0 ∷ get_or bytes 1 0 ∷ get_or bytes 2 0 ∷ get_or bytes 3 0 ∷ get_or bytes 4 0 ∷ get_or bytes 5 0 ∷ get_or bytes 6 0 ∷ get_or bytes 7 0 ∷ []
eight bytes long = fill_by_all (λ k. get_or bytes k 0) bytes 8 0 long (λ k h. refl)

pub encoded_decoded : (bytes : List ℕ) → ((i : ℕ) → get_or bytes i 0 < 256) → (t : Ticket) → decoded bytes ≡ Ok t → Proper t × (bytes ≡ encoded t)
encoded_decoded bytes small t e =
    let q = accepted_if (is_record bytes) (has_channel bytes) _ t _ _ e in
    let form = and_parts (eqb (length bytes) 8) _ q.0 in
    let zeros = and_parts (eqb (get_or bytes 6 0) 0) _ (and_parts (eqb (get_or bytes 1 0) 73 || eqb (get_or bytes 1 0) 79) _ form.1).1 in
    let channel = and_parts (ltb (get_or bytes 0 0) 32) _ q.1 in
    let value = bytes_of_value (get_or bytes 2 0) (get_or bytes 3 0) (get_or bytes 4 0) (get_or bytes 5 0) (small 2) (small 3) (small 4) (small 5) in
    let mark : get_or bytes 1 0 ≡ mark_of (get_or bytes 0 0) = eqb-true _ _ channel.1 in
    let sixth : get_or bytes 6 0 ≡ 0 = eqb-true _ _ zeros.0 in
    let seventh : get_or bytes 7 0 ≡ 0 = eqb-true _ _ zeros.1 in
    let list = eight bytes (eqb-true _ _ form.0) in
    let same : bytes ≡ encoded (record { channel = get_or bytes 0 0; value = value_in bytes }) = cc in
    subst (λ (u : Ticket). Proper u × (bytes ≡ encoded u)) q.2 (record { known = ltb-true _ _ channel.0; fits = value.0 }, same)
