-- Lines that are read alone and then built into a state. Assumes nothing.
use Rattle.std.specs.Prelude.{◌≡◌, ℕ, ◌+◌, List, [], ◌∷◌, Ok, Result}
use Rattle.fault.specs.declared.Fault.{Fault}
use Rattle.fault.specs.Faults.{then}
use Rattle.text.specs.Texts.{Step}

-- a line is first read alone, and then put into the state
abbrev pub two_steps : {S A : Type 0} → (ℕ → List ℕ → Result A Fault) → (S → ℕ → A → Result S Fault) → Step S
two_steps parse build s n p = then (parse n p) (λ a. build s n a)

-- what was read of the lines, put into the state one after the other
abbrev pub Built : {S A : Type 0} → (S → ℕ → A → Result S Fault) → S → ℕ → List A → S → Type 0
Built build s n [] t = s ≡ t
Built {S} build s n (a ∷ xs) t = (u : S) × (build s (n + 1) a ≡ Ok u) × Built build u (n + 1) xs t
