-- A line: which is ragged, and the next of a text. Assumes nothing.
use Rattle.std.specs.Prelude.{◌≡◌, ℕ, ◌<◌, Bool, true, false, not, ◌&&◌, List, [], ◌∷◌, length, Some, None, Ok, Err, Option, Result, ◌==◌, nat_le}
use Rattle.std.specs.Borrow.{Bor}
use Rattle.fault.specs.declared.Fault.{Fault}
use Rattle.std.specs.List.{list_all}
use Rattle.text.specs.Classes.{is_printable}
use Rattle.text.specs.Pieces.{pieces}
use Rattle.text.specs.Places.{ragged_at}

-- the most bytes of a text
abbrev pub text_limit : ℕ
text_limit = 8192

-- the most bytes of a line before its line feed
abbrev pub line_limit : ℕ
line_limit = 80

abbrev pub all_printable : List ℕ → Bool
all_printable bs = list_all is_printable bs

-- short enough, and each byte printable
abbrev pub is_clean : List ℕ → Bool
is_clean bs = nat_le (length bs) line_limit && all_printable bs

-- the first piece of a text is a ragged line; the last one has no line feed
abbrev pub first_is_ragged : List (List ℕ) → Bool
first_is_ragged [] = false
first_is_ragged (p ∷ []) = not (length p == 0)
first_is_ragged (p ∷ q ∷ qs) = not (is_clean p)

-- left is a clean line, its line feed, and the rest
pub record BeginsWith (left line rest : List ℕ) : Type 0 where
  pub cut : pieces 10 left ≡ line ∷ pieces 10 rest
  pub clean : is_clean line ≡ true
  pub shorter : length rest < length left

-- the next line, where left is what is left of a text behind n - 1 lines
abbrev pub NextLine : ℕ → List ℕ → Result (Option (Bor (List ℕ) × Bor (List ℕ))) Fault → Type 0
NextLine n left (Ok None) = left ≡ []
NextLine n left (Ok (Some r)) = BeginsWith left r.0.now r.1.now
NextLine n left (Err f) = (first_is_ragged (pieces 10 left) ≡ true) × (f ≡ ragged_at n)
