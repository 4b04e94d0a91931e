-- The one text of the lines of a level sheet, and what a sheet may hold. Assumes nothing.
use Rattle.std.specs.Prelude.{◌≡◌, ℕ, ◌<◌, List, [], ◌∷◌, map, Ok, Err, decimal, Result, ◌≢◌}
use Rattle.std.specs.List.{AllByRecursion}
use Rattle.fault.specs.declared.Fault.{Fault}
use Rattle.levels.specs.Scheme.{Levels}
use Rattle.sheet.specs.declared.LevelSheet.{LevelSheet}
use Rattle.text.specs.Texts.{fed}
use Rattle.text.specs.Pieces.{joined}
use Rattle.sheet_reader.specs.declared.line.Name.{Name}
use Rattle.sheet_reader.specs.declared.line.Name.TheVariants.{Channel, Variable}
use Rattle.sheet_reader.specs.declared.line.SheetLine.{SheetLine}
use Rattle.sheet_reader.specs.Naming.{FitName, level_of, sheet_of}
use Rattle.sheet_reader.specs.Reading.{reading}

-- `C` or `V`
abbrev pub letter_of : Name → ℕ
letter_of (Channel c) = 67
letter_of (Variable v) = 86

-- the channel or the variable
abbrev pub number_of : Name → ℕ
number_of (Channel c) = c
number_of (Variable v) = v

-- the letter, the number, and the level
abbrev pub fields_of : SheetLine → List (List ℕ)
fields_of l = (letter_of l.name ∷ []) ∷ decimal (number_of l.name) ∷ decimal l.level ∷ []

-- the fields with commas between them
abbrev pub line_bytes : SheetLine → List ℕ
line_bytes l = joined 44 (fields_of l)

-- each line with its line feed
abbrev pub written : List SheetLine → List ℕ
written ls = fed (map line_bytes ls)

-- what a line may hold
pub record Fit (l : SheetLine) : Type 0 where
  pub name : FitName l.name
  pub level : l.level < 256

-- no name has two lines
abbrev pub Once : List SheetLine → Type 0
Once [] = Unit {0}
Once (l ∷ ls) = AllByRecursion (λ k. l.name ≢ k.name) ls × Once ls

-- the name of each line has its level, and a name that no line has is at the level low
abbrev pub LinesGiveLevels : Type 0
LinesGiveLevels =
    (low : ℕ) (ls : List SheetLine) → AllByRecursion Fit ls → Once ls
    → AllByRecursion (λ l. level_of (sheet_of low ls) l.name ≡ l.level) ls × ((m : Name) → FitName m → AllByRecursion (λ l. m ≢ l.name) ls → level_of (sheet_of low ls) m ≡ low)

-- what a sheet may hold for a scheme; that it has at most 48 lines, and that its text keeps the limits on bytes, follows
pub record SheetFor (L : Levels) (ls : List SheetLine) : Type 0 where
  pub fit : AllByRecursion Fit ls
  pub once : Once ls
  pub levels : AllByRecursion (λ l. l.level < L.count) ls

-- a text is read as lines exactly if it is the writing of them, and they make a sheet for the scheme
abbrev pub ReadingInvertsWriting : Type 0
ReadingInvertsWriting =
    (L : Levels) (t : List ℕ) (ls : List SheetLine)
    → (reading L t ≡ Ok ls → (t ≡ written ls) × SheetFor L ls) × ((t ≡ written ls) × SheetFor L ls → reading L t ≡ Ok ls)

-- what a call accepts, with no word of how it reads: the lent sheet has the levels of the one sheet that the text is the writing of, or there is none
abbrev pub Accepts : Levels → List ℕ → Result (Unit {0}) Fault → LevelSheet → Type 0
Accepts L t (Ok u) after = (ls : List SheetLine) × SheetFor L ls × (t ≡ written ls) × (after ≡ sheet_of L.lowest ls)
Accepts L t (Err f) after = (ls : List SheetLine) → SheetFor L ls → t ≢ written ls
