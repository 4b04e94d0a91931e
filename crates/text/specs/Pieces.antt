-- Bytes in pieces between marks. Assumes nothing.
use Rattle.std.specs.Prelude.{ℕ, cond, List, [], ◌∷◌, ◌++◌, Some, None, Option, ◌==◌}
use Rattle.std.specs.Borrow.{Bor}

-- what stands before the first mark
abbrev pub first : ℕ → List ℕ → List ℕ
first m [] = []
first m (b ∷ bs) = cond (b == m) [] (b ∷ first m bs)

-- the pieces after the first mark
abbrev pub others : ℕ → List ℕ → List (List ℕ)
others m [] = []
others m (b ∷ bs) = cond (b == m) (first m bs ∷ others m bs) (others m bs)

-- all pieces: one more than there are marks
abbrev pub pieces : ℕ → List ℕ → List (List ℕ)
pieces m bs = first m bs ∷ others m bs

-- the pieces of what is left after a cut
abbrev pub pieces_left : ℕ → Option (Bor (List ℕ)) → List (List ℕ)
pieces_left m None = []
pieces_left m (Some rest) = pieces m rest.now

-- each piece behind a mark
abbrev pub marked : ℕ → List (List ℕ) → List ℕ
marked m [] = []
marked m (p ∷ ps) = m ∷ (p ++ marked m ps)

-- the pieces with a mark between each two
abbrev pub joined : ℕ → List (List ℕ) → List ℕ
joined m [] = []
joined m (p ∷ ps) = p ++ marked m ps
