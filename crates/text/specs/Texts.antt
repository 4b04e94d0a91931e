-- A text read line by line. Assumes nothing.
use Rattle.std.specs.Prelude.{◌≡◌, ℕ, ◌+◌, Bool, true, cond, ◌⊎◌, List, [], ◌∷◌, ◌++◌, length, Ok, Err, Result, ◌==◌, nat_le}
use Rattle.fault.specs.declared.Fault.{Fault}
use Rattle.fault.specs.declared.Reason.TheVariants as reason
use Rattle.fault.specs.Faults.{unplaced, then}
use Rattle.text.specs.Lines.{text_limit, is_clean}
use Rattle.text.specs.Pieces.{pieces}
use Rattle.text.specs.Places.{ragged_at}

-- the text of some lines: each with its line feed
abbrev pub fed : List (List ℕ) → List ℕ
fed [] = []
fed (p ∷ ps) = p ++ 10 ∷ fed ps

-- ragged lines are refused, or raggedness is set aside
pub data Manner : Type 0 where
  strict : Manner
  lax : Manner

abbrev pub passes : Manner → List ℕ → Bool
passes strict p = is_clean p
passes lax p = true

-- a reading: what a line, with its number, makes of what the lines before it left
abbrev pub Step : Type 0 → Type 0
Step S = S → ℕ → List ℕ → Result S Fault

-- line n, where it passes
abbrev pub on_line : {S : Type 0} → Manner → Step S → S → ℕ → List ℕ → Result S Fault
on_line m step s n p = cond (passes m p) (step s n p) (Err (ragged_at n))

-- bytes behind the last line feed: no line where there are none
abbrev pub on_rest : {S : Type 0} → Manner → Step S → S → ℕ → List ℕ → Result S Fault
on_rest strict step s n p = cond (length p == 0) (Ok s) (Err (ragged_at n))
on_rest lax step s n p = cond (length p == 0) (Ok s) (step s n p)

-- the pieces of a text at its line feeds, one after the other, behind n lines that left s
abbrev pub on_lines : {S : Type 0} → Manner → Step S → S → ℕ → List (List ℕ) → Result S Fault
on_lines m step s n [] = Ok s
on_lines m step s n (p ∷ []) = on_rest m step s (n + 1) p
on_lines m step s n (p ∷ q ∷ qs) = then (on_line m step s (n + 1) p) (λ t. on_lines m step t (n + 1) (q ∷ qs))

-- a text that keeps the limit, read from the state s
abbrev pub read_text : {S : Type 0} → Step S → S → List ℕ → Result S Fault
read_text step s t = cond (nat_le (length t) text_limit) (on_lines strict step s 0 (pieces 10 t)) (Err (unplaced reason.Overlong))

-- a text is these lines; where raggedness is set aside, perhaps without the last line feed
abbrev pub TextOf : Manner → List ℕ → List (List ℕ) → Type 0
TextOf strict text ps = text ≡ fed ps
TextOf lax text ps = (text ≡ fed ps) ⊎ (text ++ 10 ∷ [] ≡ fed ps)

-- lines that pass lead from s, behind n lines, to t
abbrev pub Leads : {S : Type 0} → Manner → Step S → S → ℕ → List (List ℕ) → S → Type 0
Leads m step s n [] t = s ≡ t
Leads {S} m step s n (p ∷ ps) t = (u : S) × (passes m p ≡ true) × (step s (n + 1) p ≡ Ok u) × Leads m step u (n + 1) ps t
