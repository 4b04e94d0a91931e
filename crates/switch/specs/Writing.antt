-- The one text of a switch sheet, and what a sheet may hold. Assumes nothing.
use Rattle.std.specs.Prelude.{◌≡◌, ℕ, ◌^◌, ◌<◌, ◌≤◌, List, [], ◌∷◌, map, length, take, Some, None, Ok, Err, decimal, Option, Result, ◌≢◌}
use Rattle.std.specs.List.{AllByRecursion}
use Rattle.fault.specs.declared.Fault.{Fault}
use Rattle.text.specs.Texts.{fed}
use Rattle.text.specs.Pieces.{joined}
use Rattle.switch.specs.declared.line.SwitchLine.{SwitchLine}
use Rattle.switch.specs.Reading.{sheet_limit, reading}

-- `-`, or the channel
abbrev pub out_bytes : Option ℕ → List ℕ
out_bytes None = 45 ∷ []
out_bytes (Some channel) = decimal channel

-- `T`, and then each part of the line
abbrev pub fields_of : SwitchLine → List (List ℕ)
fields_of l =
    (84 ∷ []) ∷ decimal l.state ∷ decimal l.channel ∷ decimal l.low ∷ decimal l.high ∷ decimal l.next ∷ out_bytes l.out ∷ decimal l.value ∷ []

-- the fields with commas between them
abbrev pub line_bytes : SwitchLine → List ℕ
line_bytes l = joined 44 (fields_of l)

-- each line with its line feed
abbrev pub written : List SwitchLine → List ℕ
written ls = fed (map line_bytes ls)

-- a ticket of an out channel, or none with the value 0
abbrev pub Makes : Option ℕ → ℕ → Type 0
Makes None value = value ≡ 0
Makes (Some channel) value = (16 ≤ channel) × (channel ≤ 31) × (value < 2 ^ 32)

-- what a line may hold
pub record Fit (l : SwitchLine) : Type 0 where
  pub state : l.state < 256
  pub channel : l.channel < 16
  pub low : l.low ≤ l.high
  pub high : l.high < 2 ^ 32
  pub next : l.next < 256
  pub out : Makes l.out l.value

-- what a sheet may hold; that its text keeps the limits on bytes follows
abbrev pub Sheet : List SwitchLine → Type 0
Sheet ls = (length ls ≤ sheet_limit) × AllByRecursion Fit ls

-- a text is read as lines exactly if it is the writing of them, and they make a sheet
abbrev pub ReadingInvertsWriting : Type 0
ReadingInvertsWriting = (t : List ℕ) (ls : List SwitchLine) → (reading t ≡ Ok ls → (t ≡ written ls) × Sheet ls) × ((t ≡ written ls) × Sheet ls → reading t ≡ Ok ls)

-- what a call accepts, with no word of how it reads: the lent lines begin with the one sheet that the text is the writing of, or there is none
abbrev pub Accepts : List ℕ → List SwitchLine → Result ℕ Fault → List SwitchLine → Type 0
Accepts t before (Ok n) after = (sheet_limit ≤ length before) × (n ≤ sheet_limit) × Sheet (take n after) × (t ≡ written (take n after))
Accepts t before (Err f) after = sheet_limit ≤ length before → (ls : List SwitchLine) → Sheet ls → t ≢ written ls
