-- The lines of the records of a batch. Assumes nothing.
use Rattle.std.proofs.Common.{◌≡◌, ℕ, zero, suc, ◌/◌, List, [], ◌∷◌, ◌++◌, length, take, drop, Ok, sym, ap, ◌∙◌, arith, length-append}
use Rattle.std.proofs.lemmas.List.{take_at, drop_at}
use Rattle.std.specs.List.{flat_map}
use Rattle.fault.specs.Faults.{then}
use Rattle.fault.proofs.Then.{same_ok, then_ok}
use Rattle.levels.specs.Scheme.{Levels}
use Rattle.sheet.specs.declared.LevelSheet.{LevelSheet}
use Rattle.sheet.specs.Sheets.{checked}
use Rattle.ticket.specs.declared.Ticket.{Ticket}
use Rattle.ticket.specs.Tickets.{decoded}
use Rattle.batch.specs.Batches.{tickets_of, batch}
use Rattle.batch.specs.Level.{level_of, batch_level}
use Rattle.batch.proofs.Batches.{batch_whole}
use Rattle.listing.specs.Listing.{ticket_line, level_line, told, listing, record_line, first_lines, record_lines}

pub record_lines_more : (bytes first rest : List ℕ) → bytes ≡ first ++ rest → length first ≡ 8 → record_lines bytes ≡ record_line (decoded first) ++ record_lines rest
record_lines_more bytes first rest e long =
    let count : length (first ++ rest) / 8 ≡ suc (length rest / 8) = omega (arith, length-append first rest) in
    rw (e, count, take_at first rest 8 long, drop_at first rest 8 long)

-- where all records are tickets, their lines are those of the tickets
pub lines_of_tickets : (n : ℕ) (bytes : List ℕ) (ts : List Ticket) → tickets_of n bytes ≡ Ok ts → first_lines n bytes ≡ flat_map ticket_line ts
lines_of_tickets zero bytes ts e = ap (flat_map ticket_line) (same_ok [] ts e)
lines_of_tickets (suc n) bytes ts e =
    let one = then_ok (decoded (take 8 bytes)) _ ts e in
    let more = then_ok (tickets_of n (drop 8 bytes)) _ ts one.2 in
    let all : one.0 ∷ more.0 ≡ ts = same_ok _ ts more.2 in
    ap (λ r. record_line r ++ first_lines n (drop 8 bytes)) one.1
    ∙ ap (λ xs. ticket_line one.0 ++ xs) (lines_of_tickets n (drop 8 bytes) more.0 more.1)
    ∙ ap (flat_map ticket_line) all

module _ (L : Levels) (sheet : LevelSheet) (bytes : List ℕ) where
  pub listing_accepted : (j : ℕ) → batch_level L sheet bytes ≡ Ok j → listing L sheet bytes ≡ record_lines bytes ++ level_line j
  listing_accepted j e =
      let known = then_ok (checked L sheet) _ j e in
      let read = then_ok (batch bytes) _ j known.2 in
      let ts = read.0 in
      ap (λ r. told L sheet (then r (λ _. batch bytes))) known.1
      ∙ ap (told L sheet) read.1
      ∙ ap (λ xs. xs ++ level_line (level_of L sheet ts)) (sym (lines_of_tickets (length bytes / 8) bytes ts (batch_whole bytes ts read.1).1))
      ∙ ap (λ n. record_lines bytes ++ level_line n) (same_ok (level_of L sheet ts) j read.2)
