-- The one text of a scheme, and the sizes that there are. Assumes nothing.
use Rattle.std.specs.Prelude.{◌≡◌, ℕ, ◌≤◌, List, [], ◌∷◌, Ok, Err, codes, decimal, Result, ◌≢◌}
use Rattle.fault.specs.declared.Fault.{Fault}
use Rattle.text.specs.Pieces.{joined}
use Rattle.text.specs.Texts.{fed}
use Rattle.scheme_reader.specs.declared.SchemeChoice.{SchemeChoice}
use Rattle.scheme_reader.specs.Reading.{SizedScheme, chain_of, parties_of, size_of, reading}

-- the word and the size
abbrev pub fields_of : SizedScheme → List (List ℕ)
fields_of (chain_of n) = codes "chain" ∷ decimal n ∷ []
fields_of (parties_of n) = codes "parties" ∷ decimal n ∷ []

-- the fields with a comma between them, and a line feed
abbrev pub written : SizedScheme → List ℕ
written s = fed (joined 44 (fields_of s) ∷ [])

-- the sizes that there are
abbrev pub Fit : SizedScheme → Type 0
Fit (chain_of n) = (1 ≤ n) × (n ≤ 16)
Fit (parties_of n) = n ≤ 4

-- a text is read as a scheme exactly if it is the writing of it, and there is one of that size
abbrev pub ReadingInvertsWriting : Type 0
ReadingInvertsWriting = (t : List ℕ) (s : SizedScheme) → (reading t ≡ Ok s → (t ≡ written s) × Fit s) × ((t ≡ written s) × Fit s → reading t ≡ Ok s)

-- what a call accepts, with no word of how it reads: the text is the writing of the scheme, or of none
abbrev pub Accepts : List ℕ → Result SchemeChoice Fault → Type 0
Accepts t (Ok c) = (t ≡ written (size_of c)) × Fit (size_of c)
Accepts t (Err f) = (s : SizedScheme) → Fit s → t ≢ written s
