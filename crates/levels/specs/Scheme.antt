-- A scheme of levels: the numbers below its count, ordered by the relation "at or below". Assumes nothing.
use Rattle.std.specs.Prelude.{◌≡◌, ℕ, ◌<◌, ◌≤◌, Bool, true, cond, ◌&&◌, Some, None, Option, nat_lt}

-- count and order are the whole meaning: the laws below leave one choice for the lowest level and for each join
pub record Levels : Type 0 where
  pub count : ℕ
  pub below : ℕ → ℕ → Bool
  pub lowest : ℕ
  pub join : ℕ → ℕ → ℕ

-- a is at or below b
abbrev pub Below : Levels → ℕ → ℕ → Type 0
Below L a b = L.below a b ≡ true

-- there are 1 to 16 levels
abbrev pub Sized : Levels → Type 0
Sized L = (1 ≤ L.count) × (L.count ≤ 16)

-- a number that is no level is below and above none
abbrev pub Proper : Levels → Type 0
Proper L = (a b : ℕ) → Below L a b → (a < L.count) × (b < L.count)

abbrev pub Reflexive : Levels → Type 0
Reflexive L = (a : ℕ) → a < L.count → Below L a a

abbrev pub Antisymmetric : Levels → Type 0
Antisymmetric L = (a b : ℕ) → Below L a b → Below L b a → a ≡ b

abbrev pub Transitive : Levels → Type 0
Transitive L = (a b c : ℕ) → Below L a b → Below L b c → Below L a c

-- the lowest level is below all
abbrev pub Bottom : Levels → Type 0
Bottom L = (a : ℕ) → a < L.count → Below L L.lowest a

-- j is the least level above both a and b
pub record Least (L : Levels) (a b j : ℕ) : Type 0 where
  pub left : Below L a j
  pub right : Below L b j
  pub least : (c : ℕ) → Below L a c → Below L b c → Below L j c

abbrev pub Joins : Levels → Type 0
Joins L = (a b : ℕ) → a < L.count → b < L.count → Least L a b (L.join a b)

-- what every scheme shows
pub record Lattice (L : Levels) : Type 0 where
  pub sized : Sized L
  pub proper : Proper L
  pub reflexive : Reflexive L
  pub antisymmetric : Antisymmetric L
  pub transitive : Transitive L
  pub bottom : Bottom L
  pub joins : Joins L

-- two schemes with the same count and order have the same lowest level and the same joins
abbrev pub OrderDeterminesScheme : Type 0
OrderDeterminesScheme =
    (K L : Levels) → Lattice K → Lattice L → K.count ≡ L.count → ((a b : ℕ) → K.below a b ≡ L.below a b)
    → (K.lowest ≡ L.lowest) × ((a b : ℕ) → a < K.count → b < K.count → K.join a b ≡ L.join a b)

-- what `join` answers: nothing where one of the two is no level
abbrev pub join_of : Levels → ℕ → ℕ → Option ℕ
join_of L a b = cond (nat_lt a L.count && nat_lt b L.count) (Some (L.join a b)) None
