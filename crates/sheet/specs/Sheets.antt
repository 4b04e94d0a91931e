-- The levels that a sheet gives to channels and variables. Assumes nothing.
use Rattle.std.specs.Prelude.{ℕ, Bool, cond, ◌&&◌, List, replicate, Ok, Err, Result, nat_lt, slice_index}
use Rattle.std.specs.List.{list_all}
use Rattle.fault.specs.declared.Fault.{Fault}
use Rattle.fault.specs.declared.Reason.TheVariants as reason
use Rattle.fault.specs.Faults.{unplaced}
use Rattle.levels.specs.Scheme.{Levels}
use Rattle.sheet.specs.declared.LevelSheet.{LevelSheet}

-- every channel and every variable at one level
abbrev pub uniform : ℕ → LevelSheet
uniform level = record { channels = replicate 32 level; variables = replicate 16 level }

abbrev pub channel_level : LevelSheet → ℕ → ℕ
channel_level sheet channel = slice_index sheet.channels channel

-- each of these is one of n levels
abbrev pub each_below : ℕ → List ℕ → Bool
each_below n xs = list_all (λ x. nat_lt x n) xs

-- the scheme has every level of the sheet
abbrev pub has_sheet : Levels → LevelSheet → Bool
has_sheet L sheet = each_below L.count sheet.channels && each_below L.count sheet.variables

abbrev pub checked : Levels → LevelSheet → Result (Unit {0}) Fault
checked L sheet = cond (has_sheet L sheet) (Ok tt) (Err (unplaced reason.Level))
