-- A level for each set of n parties, bit p standing for party p: below is subset, join is union. Assumes nothing.
use Rattle.std.specs.Prelude.{ℕ, ◌^◌, Bool, ◌&&◌, ◌==◌, bit_and, bit_or, nat_le, nat_lt}
use Rattle.levels.specs.Scheme.{Levels}

abbrev pub parties : ℕ → Levels
parties n = record { count = 2 ^ n; below = λ a b. (bit_and a b == a) && nat_lt b (2 ^ n); lowest = 0; join = bit_or }

abbrev pub is_parties : ℕ → Bool
is_parties n = nat_le n 4
