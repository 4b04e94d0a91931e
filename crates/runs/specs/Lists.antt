-- Beginnings of lists, and what is worked out along a list. Assumes nothing.
use Rattle.std.specs.Prelude.{◌≡◌, ◌⊎◌, List, [], ◌∷◌, ◌++◌}

-- xs is a beginning of ys
pub record Beginning {X : Type 0} (xs ys : List X) : Type 0 where
  pub rest : List X
  pub joins : xs ++ rest ≡ ys

-- one is a beginning of the other
abbrev pub Comparable : {X : Type 0} → List X → List X → Type 0
Comparable xs ys = Beginning xs ys ⊎ Beginning ys xs

abbrev pub along_behind : {X Y : Type 0} → (List X → X → Y) → List X → List X → List Y
along_behind f before [] = []
along_behind f before (x ∷ xs) = f before x ∷ along_behind f (before ++ (x ∷ [])) xs

-- what f gives for each element with all those before it, in order
abbrev pub along : {X Y : Type 0} → (List X → X → Y) → List X → List Y
along f xs = along_behind f [] xs

-- the lists one behind the other
abbrev pub joined : {X : Type 0} → List (List X) → List X
joined [] = []
joined (xs ∷ xss) = xs ++ joined xss
