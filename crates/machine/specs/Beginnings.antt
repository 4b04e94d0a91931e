-- When a list is a beginning of another. Assumes nothing.
use Rattle.std.specs.Prelude.{◌≡◌, ◌⊎◌, List, ◌++◌}

-- xs is a beginning of ys
pub record Beginning {X : Type 0} (xs ys : List X) : Type 0 where
  pub rest : List X
  pub joins : xs ++ rest ≡ ys

-- one is a beginning of the other
abbrev pub Comparable : {X : Type 0} → List X → List X → Type 0
Comparable xs ys = Beginning xs ys ⊎ Beginning ys xs
