-- The fields of a line, read from the left. Assumes nothing.
use Rattle.std.specs.Prelude.{◌≡◌, ℕ, List, [], ◌∷◌, Some, None, Ok, Err, Option, Result}
use Rattle.fault.specs.declared.Fault.{Fault}
use Rattle.text.specs.declared.fields.Fields.{Fields}
use Rattle.text.specs.Fields.{letter_in}
use Rattle.text.specs.Numbers.{number_in}
use Rattle.text.specs.Pieces.{pieces_left}
use Rattle.text.specs.Places.{letter_at, field_at}

-- the fields that are still to be read, and the number of their line
abbrev pub left_of : Fields → List (List ℕ)
left_of fields = pieces_left 44 fields.rest

abbrev pub line_of : Fields → ℕ
line_of fields = fields.line

abbrev pub head_of : List (List ℕ) → Option (List ℕ)
head_of [] = None
head_of (f ∷ fs) = Some f

abbrev pub tail_of : List (List ℕ) → List (List ℕ)
tail_of [] = []
tail_of (f ∷ fs) = fs

-- one field of the line was taken
pub record Taken (before after : Fields) : Type 0 where
  pub left : left_of after ≡ tail_of (left_of before)
  pub line : line_of after ≡ line_of before

-- a value, or the refusal where there is none
abbrev pub or_refused : {A : Type 0} → Fault → Option A → Result A Fault
or_refused f None = Err f
or_refused f (Some x) = Ok x

abbrev pub letter_in_head : Option (List ℕ) → Option ℕ
letter_in_head None = None
letter_in_head (Some f) = letter_in f

-- the letter that is the first of the fields fs in line n
abbrev pub read_letter : ℕ → List (List ℕ) → Result ℕ Fault
read_letter n fs = or_refused (letter_at n) (letter_in_head (head_of fs))

abbrev pub number_in_head : ℕ → ℕ → Option (List ℕ) → Option ℕ
number_in_head low high None = None
number_in_head low high (Some f) = number_in low high f

-- the number from low to high that is the first of the fields fs, of which the place is k in line n
abbrev pub read_number : ℕ → ℕ → ℕ → ℕ → List (List ℕ) → Result ℕ Fault
read_number n k low high fs = or_refused (field_at n k) (number_in_head low high (head_of fs))

-- no field is left
abbrev pub read_end : ℕ → ℕ → List (List ℕ) → Result (Unit {0}) Fault
read_end n k [] = Ok tt
read_end n k (f ∷ fs) = Err (field_at n k)
