-- What a level sheet names, and the levels that its lines give. Assumes nothing.
use Rattle.std.specs.Prelude.{ℕ, ◌+◌, ◌<◌, Bool, false, ◌||◌, List, [], ◌∷◌, ◌==◌, slice_index, slice_set}
use Rattle.sheet.specs.declared.LevelSheet.{LevelSheet}
use Rattle.sheet.specs.Sheets.{uniform}
use Rattle.sheet_reader.specs.declared.line.Name.{Name}
use Rattle.sheet_reader.specs.declared.line.Name.TheVariants.{Channel, Variable}
use Rattle.sheet_reader.specs.declared.line.SheetLine.{SheetLine}

-- channels 0 to 31, variables 0 to 15
abbrev pub FitName : Name → Type 0
FitName (Channel c) = c < 32
FitName (Variable v) = v < 16

-- the place of a name among all: the channels, and then the variables
abbrev pub place_of : Name → ℕ
place_of (Channel c) = c
place_of (Variable v) = 32 + v

abbrev pub same_name : Name → Name → Bool
same_name (Channel c) (Channel d) = c == d
same_name (Channel c) (Variable w) = false
same_name (Variable v) (Channel d) = false
same_name (Variable v) (Variable w) = v == w

-- a line has the name
abbrev pub has_name : List SheetLine → Name → Bool
has_name [] m = false
has_name (l ∷ ls) m = same_name l.name m || has_name ls m

-- the level that a sheet has for a name
abbrev pub level_of : LevelSheet → Name → ℕ
level_of sheet (Channel c) = slice_index sheet.channels c
level_of sheet (Variable v) = slice_index sheet.variables v

-- the sheet with the level given to the name
abbrev pub given : LevelSheet → Name → ℕ → LevelSheet
given sheet (Channel c) level = record { channels = slice_set sheet.channels c level; variables = sheet.variables }
given sheet (Variable v) level = record { channels = sheet.channels; variables = slice_set sheet.variables v level }

-- the level of each line given to its name
abbrev pub all_given : LevelSheet → List SheetLine → LevelSheet
all_given sheet [] = sheet
all_given sheet (l ∷ ls) = all_given (given sheet l.name l.level) ls

-- every name at the level low, and then what the lines give
abbrev pub sheet_of : ℕ → List SheetLine → LevelSheet
sheet_of low ls = all_given (uniform low) ls
