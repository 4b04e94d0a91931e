-- What a monitor is opened with. Assumes nothing.
use Rattle.std.specs.Prelude.{ℕ, Bool, List, filter}
use Rattle.ticket.specs.declared.Ticket.{Ticket}
use Rattle.machine.specs.Meaning.{Outcome, Meaning}
use Rattle.levels.specs.Scheme.{Levels}
use Rattle.sheet.specs.declared.LevelSheet.{LevelSheet}
use Rattle.sheet.specs.Sheets.{channel_level}

-- the machine's meaning at the allowance, the count of levels, and which channels a level sees
pub record Setting : Type 0 where
  pub means : List ℕ → Ticket → Outcome
  pub levels : ℕ
  pub sees : ℕ → ℕ → Bool

-- level m sees a channel whose level in the sheet is at or below m
abbrev pub setting_of : Meaning → Levels → LevelSheet → ℕ → Setting
setting_of meaning L sheet allowance =
    record {
      means = λ words t. meaning words t allowance;
      levels = L.count;
      sees = λ m channel. L.below (channel_level sheet channel) m;
    }

-- level m sees the ticket's channel
abbrev pub visible : Setting → ℕ → Ticket → Bool
visible w m t = w.sees m t.channel

-- the tickets that level m sees, in order
abbrev pub seen : Setting → ℕ → List Ticket → List Ticket
seen w m = filter (visible w m)
