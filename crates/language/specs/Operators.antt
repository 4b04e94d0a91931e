-- The operators of expressions, on values of 32 bits. Assumes nothing.
use Rattle.std.specs.Prelude.{◌≡◌, ℕ, ◌+◌, ◌-◌, ◌*◌, ◌/◌, ◌%◌, ◌^◌, ◌<◌, ◌≤◌, cond, Some, None, Option, ◌==◌, nat_lt}
use Rattle.language.specs.declared.Operator.{Operator}
use Rattle.language.specs.declared.Operator.TheVariants.{Plus, Minus, Times, Equal, Less, Round}

-- the largest multiple of b that is not above a
abbrev pub lower : ℕ → ℕ → ℕ
lower a b = a / b * b

-- a to the nearest multiple of b, a half upward; past the largest value the lower one; b of 0 leaves a
abbrev pub rounded : ℕ → ℕ → ℕ
rounded a b =
    cond (b == 0) a
    (cond (nat_lt (2 * (a % b)) b) (lower a b) (cond (nat_lt (lower a b + b) (2 ^ 32)) (lower a b + b) (lower a b)))

-- sums, differences and products are modulo 2^32, tests give 1 or 0
abbrev pub applied : Operator → ℕ → ℕ → ℕ
applied Plus a b = (a + b) % 2 ^ 32
applied Minus a b = (a + (2 ^ 32 - b)) % 2 ^ 32
applied Times a b = (a * b) % 2 ^ 32
applied Equal a b = cond (a == b) 1 0
applied Less a b = cond (nat_lt a b) 1 0
applied Round a b = rounded a b

-- the operator that a character writes: + - * = < r
abbrev pub operator_of : ℕ → Option Operator
operator_of c =
    cond (c == 43) (Some Plus)
    (cond (c == 45) (Some Minus)
    (cond (c == 42) (Some Times)
    (cond (c == 61) (Some Equal)
    (cond (c == 60) (Some Less)
    (cond (c == 114) (Some Round) None)))))

-- how far apart two values are
abbrev pub distance : ℕ → ℕ → ℕ
distance a b = (a - b) + (b - a)

abbrev pub Multiple : ℕ → ℕ → Type 0
Multiple b r = (q : ℕ) × (r ≡ q * b)

-- r is a multiple of b, and no multiple in the range of values is nearer to a; of two equally near it is the upper one
pub record Nearest (a b r : ℕ) : Type 0 where
  pub multiple : Multiple b r
  pub nearest : (m : ℕ) → Multiple b m → m < 2 ^ 32 → distance a r ≤ distance a m
  pub upper : (m : ℕ) → Multiple b m → m < 2 ^ 32 → distance a m ≡ distance a r → m ≤ r

-- what rounding is, by a law: the nearest multiple, or the value itself where there are no multiples but 0
abbrev pub Rounds : ℕ → ℕ → ℕ → Type 0
Rounds a b r = (b ≡ 0 → r ≡ a) × (0 < b → Nearest a b r)
