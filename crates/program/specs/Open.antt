-- How many rows there are, and which of them are open. Assumes nothing.
use Rattle.std.specs.Prelude.{ℕ, ◌<◌, ◌≤◌, List, length}
use Rattle.std.specs.List.{AllByRecursion}

-- how many rows there are, and the numbers of the open ones, the innermost first and the handler last
pub record Open : Type 0 where
  pub count : ℕ
  pub stack : List ℕ

-- at most nine rows are open, and each is among the first m
pub record Among (m : ℕ) (stack : List ℕ) : Type 0 where
  pub few : length stack ≤ 9
  pub below : AllByRecursion (λ o. o < m) stack
