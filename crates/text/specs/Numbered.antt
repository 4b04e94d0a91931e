-- The lines of a text one after the other, each with its number. Assumes nothing.
use Rattle.std.specs.Prelude.{◌≡◌, ℕ, ◌+◌, ◌<◌, ◌≤◌, true, List, [], length, Some, None, Ok, Err, Option, Result}
use Rattle.fault.specs.declared.Fault.{Fault}
use Rattle.fault.specs.declared.Reason.TheVariants as reason
use Rattle.fault.specs.Faults.{unplaced}
use Rattle.text.specs.declared.line.Line.{Line}
use Rattle.text.specs.declared.lines.Lines.{Lines}
use Rattle.text.specs.Lines.{text_limit, first_is_ragged, BeginsWith}
use Rattle.text.specs.Pieces.{pieces}
use Rattle.text.specs.Places.{ragged_at}

-- what is still to be read, and how many lines were read
abbrev pub bytes_left : Lines → List ℕ
bytes_left s = s.left.now

abbrev pub lines_read : Lines → ℕ
lines_read s = s.count

-- a text that keeps the limit, of which no line was read
abbrev pub Begun : List ℕ → Result Lines Fault → Type 0
Begun text (Ok s) = (length text ≤ text_limit) × (bytes_left s ≡ text) × (lines_read s ≡ 0)
Begun text (Err f) = (text_limit < length text) × (f ≡ unplaced reason.Overlong)

-- the next line is l
pub record Gives (s : Lines) (l : Line) (t : Lines) : Type 0 where
  pub begins : BeginsWith (bytes_left s) l.bytes.now (bytes_left t)
  pub number : l.number ≡ lines_read s + 1
  pub more : lines_read t ≡ lines_read s + 1

-- the next line is ragged, and no line comes behind it
pub record Refuses (s : Lines) (f : Fault) (t : Lines) : Type 0 where
  pub ragged : first_is_ragged (pieces 10 (bytes_left s)) ≡ true
  pub fault : f ≡ ragged_at (lines_read s + 1)
  pub over : bytes_left t ≡ []

-- a call for the next line
abbrev pub GivesLine : Lines → Option (Result Line Fault) → Lines → Type 0
GivesLine s None t = (bytes_left s ≡ []) × (bytes_left t ≡ [])
GivesLine s (Some (Ok l)) t = Gives s l t
GivesLine s (Some (Err f)) t = Refuses s f t
