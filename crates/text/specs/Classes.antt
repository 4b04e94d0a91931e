-- The class of a byte: the rule. Assumes nothing.
use Rattle.std.specs.Prelude.{ℕ, Bool, cond, ◌&&◌, ◌||◌, ◌==◌, nat_le}
use Rattle.text.specs.declared.classes.Class.{Class}
use Rattle.text.specs.declared.classes.Class.TheVariants.{Outside, Other, Digit, Letter, Operand, Operator}

abbrev pub is_between : ℕ → ℕ → ℕ → Bool
is_between low high b = nat_le low b && nat_le b high

-- 0 to 9
abbrev pub is_digit : ℕ → Bool
is_digit b = is_between 48 57 b

-- A to Z
abbrev pub is_letter : ℕ → Bool
is_letter b = is_between 65 90 b

-- x, k and v
abbrev pub is_operand : ℕ → Bool
is_operand b = b == 120 || (b == 107 || b == 118)

-- + - * = < r
abbrev pub is_operator : ℕ → Bool
is_operator b = b == 43 || (b == 45 || (b == 42 || (b == 61 || (b == 60 || b == 114))))

-- a byte that may stand in a line
abbrev pub is_printable : ℕ → Bool
is_printable b = is_between 32 126 b

abbrev pub class_of : ℕ → Class
class_of b =
    cond (is_digit b) Digit
    (cond (is_letter b) Letter
    (cond (is_operand b) Operand
    (cond (is_operator b) Operator
    (cond (is_printable b) Other Outside))))
