-- The one text of a day, and what a day may hold. Assumes nothing.
use Rattle.std.specs.Prelude.{◌≡◌, ℕ, ◌≤◌, List, [], ◌∷◌, map, length, Ok, decimal}
use Rattle.std.specs.List.{AllByRecursion}
use Rattle.parts.specs.Parts.{feeds}
use Rattle.text.specs.Lines.{text_limit}
use Rattle.text.specs.Pieces.{joined}
use Rattle.text.specs.Texts.{fed}
use Rattle.day_reader.specs.declared.hand_in.HandIn.{HandIn}
use Rattle.day_reader.specs.HandIns.{Fit}
use Rattle.day_reader.specs.Reading.{reading}

-- `D`, the channel, and the value
abbrev pub fields_of : HandIn → List (List ℕ)
fields_of h = (68 ∷ []) ∷ decimal h.channel ∷ decimal h.value ∷ []

-- the fields with commas between them
abbrev pub line_bytes : HandIn → List ℕ
line_bytes h = joined 44 (fields_of h)

-- each line with its line feed
abbrev pub written : List HandIn → List ℕ
written hs = fed (map line_bytes hs)

-- what a day may hold: as many lines as a text has bytes for
pub record Day (hs : List HandIn) : Type 0 where
  pub fit : AllByRecursion Fit hs
  pub short : length (written hs) ≤ text_limit

-- a text is read as hand-ins exactly if it is the writing of them, and they make a day
abbrev pub ReadingInvertsWriting : Type 0
ReadingInvertsWriting =
    (t : List ℕ) (hs : List HandIn) → (reading t ≡ Ok hs → (t ≡ written hs) × Day hs) × ((t ≡ written hs) × Day hs → reading t ≡ Ok hs)

-- a line for each line feed
abbrev pub ReadingCountsLines : Type 0
ReadingCountsLines = (t : List ℕ) (hs : List HandIn) → reading t ≡ Ok hs → length hs ≡ feeds t
