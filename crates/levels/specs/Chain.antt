-- A chain of n levels, ordered as the numbers. Assumes nothing.
use Rattle.std.specs.Prelude.{ℕ, max, Bool, ◌&&◌, nat_le, nat_lt}
use Rattle.levels.specs.Scheme.{Levels}

abbrev pub chain : ℕ → Levels
chain n = record { count = n; below = λ a b. nat_le a b && nat_lt b n; lowest = 0; join = λ a b. max a b }

abbrev pub is_chain : ℕ → Bool
is_chain n = nat_le 1 n && nat_le n 16
