-- Reading a batch undoes writing one. Assumes nothing.
use Rattle.std.proofs.Common.{◌≡◌, ℕ, zero, suc, ◌+◌, ◌*◌, ◌/◌, ◌%◌, ◌<◌, ◌≤◌, eqb, List, [], ◌∷◌, ◌++◌, length, get_or, take, drop, Ok, sym, refl, ap, ◌∙◌, ⊎_elim, arith, length-append}
use Rattle.std.proofs.lemmas.List.{take_at, drop_at, take-append-drop, get_or-take, get_or-drop, get_or_past, length-take, length-drop, nil_from_length}
use Rattle.std.proofs.lemmas.Bool.{eq-eqb, eqb-true, cases_lt}
use Rattle.std.specs.List.{AllByRecursion}
use Rattle.fault.specs.declared.Reason.TheVariants as reason
use Rattle.fault.specs.Faults.{unplaced, then}
use Rattle.fault.proofs.Then.{same_ok, cond_ok, then_ok}
use Rattle.ticket.specs.declared.Ticket.{Ticket}
use Rattle.ticket.specs.Tickets.{encoded, decoded, Proper}
use Rattle.ticket.proofs.Codec.{decoded_encoded, encoded_decoded}
use Rattle.batch.specs.Batches.{tickets_of, batch, encoded_all, Carries}

-- one ticket more at the front
pub tickets_more : (bytes first rest : List ℕ) → bytes ≡ first ++ rest → length first ≡ 8
    → tickets_of (length bytes / 8) bytes ≡ then (decoded first) (λ t. then (tickets_of (length rest / 8) rest) (λ ts. Ok (t ∷ ts)))
tickets_more bytes first rest e long =
    let count : length (first ++ rest) / 8 ≡ suc (length rest / 8) = omega (arith, length-append first rest) in
    rw (e, count, take_at first rest 8 long, drop_at first rest 8 long)

pub tickets_none : (bytes : List ℕ) → length bytes < 8 → tickets_of (length bytes / 8) bytes ≡ Ok []
tickets_none bytes short = let none : length bytes / 8 ≡ 0 = omega arith in rw none

length_encoded_all : (ts : List Ticket) → length (encoded_all ts) ≡ 8 * length ts
length_encoded_all [] = refl
length_encoded_all (t ∷ ts) = omega (arith, length-append (encoded t) (encoded_all ts), length_encoded_all ts)

small_front : (bytes : List ℕ) → ((i : ℕ) → get_or bytes i 0 < 256) → (i : ℕ) → get_or (take 8 bytes) i 0 < 256
small_front bytes small i =
    ⊎_elim (λ (h : i < 8). rw (get_or-take 8 bytes i 0 h) (small i))
    (λ (h : 8 ≤ i). let past : get_or (take 8 bytes) i 0 ≡ 0 = get_or_past (take 8 bytes) i 0 (omega (arith, length-take 8 bytes)) in omega arith)
    (cases_lt i 8)

carried : (n : ℕ) (bytes : List ℕ) (ts : List Ticket) → length bytes ≡ 8 * n → ((i : ℕ) → get_or bytes i 0 < 256) → tickets_of n bytes ≡ Ok ts → Carries bytes ts
carried zero bytes ts long small e =
    let none : ts ≡ [] = sym (same_ok [] ts e) in
    rw none (nil_from_length bytes (omega arith), tt)
carried (suc n) bytes ts long small e =
    let one = then_ok (decoded (take 8 bytes)) _ ts e in
    let more = then_ok (tickets_of n (drop 8 bytes)) _ ts one.2 in
    let rest = carried n (drop 8 bytes) more.0 (omega (arith, length-drop 8 bytes)) (λ i. rw (get_or-drop 8 bytes i 0) (small (8 + i))) more.1 in
    let here = encoded_decoded (take 8 bytes) (λ i. small_front bytes small i) one.0 one.1 in
    let all : one.0 ∷ more.0 ≡ ts = same_ok _ ts more.2 in
    rw (← all) (sym (take-append-drop 8 bytes) ∙ ap (λ xs. xs ++ drop 8 bytes) here.1 ∙ ap (λ xs. encoded one.0 ++ xs) rest.0, (here.0, rest.1))

-- an accepted batch is as many tickets as it has bytes for
pub batch_whole : (bytes : List ℕ) (ts : List Ticket) → batch bytes ≡ Ok ts → (length bytes % 8 ≡ 0) × (tickets_of (length bytes / 8) bytes ≡ Ok ts)
batch_whole bytes ts e = let whole = cond_ok (eqb (length bytes % 8) 0) _ (unplaced reason.Record) ts e in (eqb-true (length bytes % 8) 0 whole.0, whole.1)

pub batch_carries : (bytes : List ℕ) (ts : List Ticket) → ((i : ℕ) → get_or bytes i 0 < 256) → batch bytes ≡ Ok ts → Carries bytes ts
batch_carries bytes ts small e =
    let whole = batch_whole bytes ts e in
    carried (length bytes / 8) bytes ts (omega (arith, whole.0)) small whole.1

reads : (ts : List Ticket) → AllByRecursion Proper ts → tickets_of (length (encoded_all ts) / 8) (encoded_all ts) ≡ Ok ts
reads [] all = refl
reads (t ∷ ts) (here, all) =
    tickets_more (encoded_all (t ∷ ts)) (encoded t) (encoded_all ts) refl refl ∙ rw (decoded_encoded t here, reads ts all)

pub batch_reads : (bytes : List ℕ) (ts : List Ticket) → Carries bytes ts → batch bytes ≡ Ok ts
batch_reads bytes ts (e, all) =
    let whole : length (encoded_all ts) % 8 ≡ 0 = omega (arith, length_encoded_all ts) in
    rw (e, eq-eqb _ _ whole) (reads ts all)
