-- Decimal numbers in bytes. Assumes nothing.
use Rattle.std.specs.Prelude.{ℕ, ◌+◌, ◌-◌, ◌*◌, Bool, cond, not, ◌&&◌, ◌||◌, List, [], ◌∷◌, length, Some, None, Option, ◌==◌, nat_le, slice_index}
use Rattle.std.specs.List.{list_all}
use Rattle.text.specs.Classes.{is_digit}

abbrev pub all_digits : List ℕ → Bool
all_digits bs = list_all is_digit bs

-- the number that the digits write behind a number a
abbrev pub value_after : ℕ → List ℕ → ℕ
value_after a [] = a
value_after a (b ∷ bs) = value_after (a * 10 + (b - 48)) bs

abbrev pub at_most : ℕ → ℕ → Option ℕ
at_most high n = cond (nat_le n high) (Some n) None

abbrev pub at_least : ℕ → Option ℕ → Option ℕ
at_least low None = None
at_least low (Some n) = cond (nat_le low n) (Some n) None

-- the same, where they are digits and the number is at most high
abbrev pub digits_in : ℕ → ℕ → List ℕ → Option ℕ
digits_in high a bs = cond (all_digits bs) (at_most high (value_after a bs)) None

-- there is a first byte, and it is 0 only where it stands alone
abbrev pub is_plain : List ℕ → Bool
is_plain bs = not (length bs == 0) && (length bs == 1 || not (slice_index bs 0 == 48))

-- the number from low to high that the bytes write
abbrev pub number_in : ℕ → ℕ → List ℕ → Option ℕ
number_in low high bs = at_least low (cond (is_plain bs) (digits_in high 0 bs) None)
