-- Joins kept in a table, row by row. Assumes nothing.
use Rattle.std.specs.Prelude.{◌≡◌, ℕ, ◌<◌, List, [], length, slice_index, slice_index_or}
use Rattle.levels.specs.Scheme.{Levels}

abbrev pub entry : List (List ℕ) → ℕ → ℕ → ℕ
entry joins a b = slice_index (slice_index_or joins a []) b

-- the table has the joins of the levels below n with all, and of n with the levels below m
pub record Filled (L : Levels) (joins : List (List ℕ)) (n m : ℕ) : Type 0 where
  pub tall : length joins ≡ 16
  pub wide : (k : ℕ) → k < 16 → length (slice_index_or joins k []) ≡ 16
  pub small : (a b : ℕ) → a < 16 → b < 16 → entry joins a b < 16
  pub rows : (a b : ℕ) → a < n → b < L.count → entry joins a b ≡ L.join a b
  pub row : (k : ℕ) → k < m → entry joins n k ≡ L.join n k
