-- The level of a batch, ticket by ticket, and that it is the least above them. Assumes nothing.
use Rattle.std.proofs.Common.{◌≡◌, ℕ, ◌/◌, ◌<◌, true, List, [], ◌∷◌, ◌++◌, map, length, get_or, Ok, Err, Result, refl, rules}
use Rattle.std.specs.List.{AllByRecursion}
use Rattle.fault.specs.declared.Fault.{Fault}
use Rattle.fault.specs.Faults.{then}
use Rattle.levels.specs.Scheme.{Levels, Below, Lattice}
use Rattle.levels.specs.Lattices.{lowest_level, join_level}
use Rattle.sheet.specs.declared.LevelSheet.{LevelSheet}
use Rattle.sheet.specs.Sheets.{has_sheet, checked}
use Rattle.sheet.proofs.Each.{channel_level_below}
use Rattle.ticket.specs.declared.Ticket.{Ticket}
use Rattle.ticket.specs.Tickets.{decoded}
use Rattle.batch.specs.Batches.{tickets_of, batch}
use Rattle.batch.specs.Level.{ticket_level, join_each, join_tickets, LeastAbove, Levelled}
use Rattle.batch.proofs.Batches.{tickets_more, tickets_none, batch_carries, batch_reads}

then_push : {Y : Type 0} (r : Result (List Ticket) Fault) (t : Ticket) (k : List Ticket → Result Y Fault) → then (then r (λ ts. Ok (t ∷ ts))) k ≡ then r (λ ts. k (t ∷ ts))
then_push (Ok ts) t k = refl
then_push (Err f) t k = refl

module _ (L : Levels) (sheet : LevelSheet) (j : ℕ) (bytes first rest : List ℕ) (e : bytes ≡ first ++ rest) (long : length first ≡ 8) where
  pub join_tickets_more : (t : Ticket) → decoded first ≡ Ok t → join_tickets L sheet j bytes ≡ join_tickets L sheet (L.join j (ticket_level sheet t)) rest
  join_tickets_more t is = rw (tickets_more bytes first rest e long, is) (then_push (tickets_of (length rest / 8) rest) t _)

  pub join_tickets_stops : (f : Fault) → decoded first ≡ Err f → join_tickets L sheet j bytes ≡ Err f
  join_tickets_stops f is = rw (tickets_more bytes first rest e long, is)

pub join_tickets_none : (L : Levels) (sheet : LevelSheet) (j : ℕ) (bytes : List ℕ) → length bytes < 8 → join_tickets L sheet j bytes ≡ Ok j
join_tickets_none L sheet j bytes short = rw (tickets_none bytes short)

module _ {L : Levels} (laws : Lattice L) where
  -- the join of j and the levels xs is the least level above them
  record LeastOf (j : ℕ) (xs : List ℕ) (m : ℕ) : Type 0 where
    level : m < L.count
    start : Below L j m
    above : AllByRecursion (λ x. Below L x m) xs
    least : (c : ℕ) → c < L.count → Below L j c → AllByRecursion (λ x. Below L x c) xs → Below L m c

  join_each_least : (j : ℕ) (xs : List ℕ) → j < L.count → AllByRecursion (λ x. x < L.count) xs → LeastOf j xs (join_each L j xs)
  join_each_least j [] h all = record { level = h; start = laws.reflexive j h; above = tt; least = λ c _ below _. below }
  join_each_least j (x ∷ xs) h (here, all) =
      let both = laws.joins j x h here in
      let more = join_each_least (L.join j x) xs (join_level laws j x h here) all in
      record {
        level = more.level;
        start = laws.transitive _ _ _ both.left more.start;
        above = (laws.transitive _ _ _ both.right more.start, more.above);
        least = λ c hc below each. more.least c hc (both.least c below each.0) each.1;
      }

  module _ (sheet : LevelSheet) (has : has_sheet L sheet ≡ true) where
    known : (ts : List Ticket) → AllByRecursion (λ x. x < L.count) (map (ticket_level sheet) ts)
    known [] = tt
    known (t ∷ ts) = (channel_level_below laws sheet has t.channel, known ts)

    least_above : (ts : List Ticket) → LeastAbove L (map (ticket_level sheet) ts) (join_each L L.lowest (map (ticket_level sheet) ts))
    least_above ts =
        let all = join_each_least L.lowest (map (ticket_level sheet) ts) (lowest_level laws) (known ts) in
        record { level = all.level; above = all.above; least = λ c hc each. all.least c hc (laws.bottom c hc) each }

    pub levelled : (bytes : List ℕ) → ((i : ℕ) → get_or bytes i 0 < 256) → (r : Result ℕ Fault) → r ≡ then (batch bytes) (λ ts. Ok (join_each L L.lowest (map (ticket_level sheet) ts))) → Levelled L sheet bytes r
    levelled bytes small r e = by_batch (batch bytes) refl e where
      by_batch : (b : Result (List Ticket) Fault) → batch bytes ≡ b → r ≡ then b (λ ts. Ok (join_each L L.lowest (map (ticket_level sheet) ts))) → Levelled L sheet bytes r
      by_batch (Ok ts) is e = rw e (ts, batch_carries bytes ts small is, least_above ts)
      by_batch (Err f) is e = rw e (λ _ ts carries. cc (batch_reads bytes ts carries))

pub checked_has : (L : Levels) (sheet : LevelSheet) → Ok tt ≡ checked L sheet → has_sheet L sheet ≡ true
checked_has L sheet e = search rules
