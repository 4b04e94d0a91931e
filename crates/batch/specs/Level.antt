-- The level of a batch: the least level at or above the level of every ticket in it. Assumes nothing.
use Rattle.std.specs.Prelude.{◌≡◌, ℕ, ◌/◌, ◌<◌, true, List, [], ◌∷◌, map, length, Ok, Err, Result}
use Rattle.std.specs.List.{AllByRecursion}
use Rattle.fault.specs.declared.Fault.{Fault}
use Rattle.fault.specs.Faults.{then}
use Rattle.levels.specs.Scheme.{Levels, Below}
use Rattle.sheet.specs.declared.LevelSheet.{LevelSheet}
use Rattle.sheet.specs.Sheets.{channel_level, has_sheet, checked}
use Rattle.ticket.specs.declared.Ticket.{Ticket}
use Rattle.batch.specs.Batches.{tickets_of, batch, Carries}

abbrev pub ticket_level : LevelSheet → Ticket → ℕ
ticket_level sheet t = channel_level sheet t.channel

-- the level j joined with each level of a list in turn
abbrev pub join_each : Levels → ℕ → List ℕ → ℕ
join_each L j [] = j
join_each L j (x ∷ xs) = join_each L (L.join j x) xs

-- the lowest level joined with the levels of all tickets
abbrev pub level_of : Levels → LevelSheet → List Ticket → ℕ
level_of L sheet ts = join_each L L.lowest (map (ticket_level sheet) ts)

-- the level j joined with the levels of the whole tickets in the bytes
abbrev pub join_tickets : Levels → LevelSheet → ℕ → List ℕ → Result ℕ Fault
join_tickets L sheet j bytes = then (tickets_of (length bytes / 8) bytes) (λ ts. Ok (join_each L j (map (ticket_level sheet) ts)))

abbrev pub batch_level : Levels → LevelSheet → List ℕ → Result ℕ Fault
batch_level L sheet bytes = then (checked L sheet) (λ _. then (batch bytes) (λ ts. Ok (level_of L sheet ts)))

-- j is the least level at or above each of the levels xs
pub record LeastAbove (L : Levels) (xs : List ℕ) (j : ℕ) : Type 0 where
  pub level : j < L.count
  pub above : AllByRecursion (λ x. Below L x j) xs
  pub least : (c : ℕ) → c < L.count → AllByRecursion (λ x. Below L x c) xs → Below L j c

-- the answer is the least level above the tickets that the bytes carry; a refusal says that the sheet has a level that the scheme lacks, or that the bytes carry no tickets
abbrev pub Levelled : Levels → LevelSheet → List ℕ → Result ℕ Fault → Type 0
Levelled L sheet bytes (Ok j) = (ts : List Ticket) × Carries bytes ts × LeastAbove L (map (ticket_level sheet) ts) j
Levelled L sheet bytes (Err f) = has_sheet L sheet ≡ true → (ts : List Ticket) → Carries bytes ts → ⊥
