-- Where the first line `-` stands. Assumes nothing.
use Rattle.std.proofs.Common.{◌≡◌, ℕ, zero, suc, ◌+◌, ◌<◌, ◌≤◌, Bool, true, false, cond, eqb, List, [], ◌∷◌, length, take, drop, Some, None, sym, refl, ap, ◌∙◌, arith}
use Rattle.std.proofs.lemmas.Grind.{common_steps}
use Rattle.std.proofs.lemmas.Bool.Decides.{nat_tests}
use native.Mathlib.Numerals.{unary_clauses}
use Rattle.parts.specs.Parts.{is_mark, is_mark_at, before_mark, after_mark}

-- no line `-` stands behind a line feed in front of n
abbrev pub Free : List ℕ → ℕ → Type 0
Free text n = (k : ℕ) → k < n → k + 3 ≤ length text → is_mark_at text k ≡ false

mark_here : (b : ℕ) (bs : List ℕ) → 2 ≤ length bs → is_mark (eqb b 10) bs ≡ is_mark_at (b ∷ bs) 0
mark_here b bs long = grind (arith, common_steps, nat_tests)

no_mark_here : (b : ℕ) (bs : List ℕ) (n : ℕ) → Free (b ∷ bs) (suc n) → is_mark (eqb b 10) bs ≡ false
no_mark_here b bs n free = grind (arith, common_steps, nat_tests, mark_here, free 0)

mark_next : (b : ℕ) (bs : List ℕ) (k : ℕ) → is_mark_at (b ∷ bs) (suc k) ≡ is_mark_at bs k
mark_next b bs k = simp unary_clauses

free_next : (b : ℕ) (bs : List ℕ) (n : ℕ) → Free (b ∷ bs) (suc n) → Free bs n
free_next b bs n free k lt long = sym (mark_next b bs k) ∙ free (suc k) (omega arith) (omega arith)

module _ (start : Bool) (b : ℕ) (bs : List ℕ) where
  before_next : is_mark start (b ∷ bs) ≡ false → before_mark start (b ∷ bs) ≡ b ∷ before_mark (eqb b 10) bs
  before_next none = ap (λ t. cond t [] (b ∷ before_mark (eqb b 10) bs)) none

  after_next : is_mark start (b ∷ bs) ≡ false → after_mark start (b ∷ bs) ≡ after_mark (eqb b 10) bs
  after_next none = ap (λ t. cond t (Some (drop 1 bs)) (after_mark (eqb b 10) bs)) none

  before_here : is_mark start (b ∷ bs) ≡ true → before_mark start (b ∷ bs) ≡ []
  before_here mark = ap (λ t. cond t [] (b ∷ before_mark (eqb b 10) bs)) mark

  after_here : is_mark start (b ∷ bs) ≡ true → after_mark start (b ∷ bs) ≡ Some (drop 1 bs)
  after_here mark = ap (λ t. cond t (Some (drop 1 bs)) (after_mark (eqb b 10) bs)) mark

-- the first line `-` stands behind the line feed at i
pub found : (bs : List ℕ) (start : Bool) (i : ℕ) → is_mark start bs ≡ false → Free bs i → i + 3 ≤ length bs → is_mark_at bs i ≡ true
    → (before_mark start bs ≡ take (i + 1) bs) × (after_mark start bs ≡ Some (drop (i + 3) bs))
found [] start i none free long mark = absurd (omega arith)
found (b ∷ []) start i none free long mark = absurd (omega arith)
found (b ∷ c ∷ bs) start zero none free long mark =
    let here = mark_here b (c ∷ bs) (omega arith) ∙ mark in
    (before_next start b (c ∷ bs) none ∙ ap (λ xs. b ∷ xs) (before_here (eqb b 10) c bs here), after_next start b (c ∷ bs) none ∙ after_here (eqb b 10) c bs here)
found (b ∷ c ∷ bs) start (suc i) none free long mark =
    let rest = found (c ∷ bs) (eqb b 10) i (no_mark_here b (c ∷ bs) i free) (free_next b (c ∷ bs) i free) (omega arith) (sym (mark_next b (c ∷ bs) i) ∙ mark) in
    (before_next start b (c ∷ bs) none ∙ ap (λ xs. b ∷ xs) rest.0 ∙ simp unary_clauses, after_next start b (c ∷ bs) none ∙ rest.1 ∙ simp unary_clauses)

-- there is none
pub missing : (bs : List ℕ) (start : Bool) → is_mark start bs ≡ false → Free bs (length bs) → (before_mark start bs ≡ bs) × (after_mark start bs ≡ None)
missing [] start none free = (refl, refl)
missing (b ∷ bs) start none free =
    let rest = missing bs (eqb b 10) (no_mark_here b bs (length bs) free) (free_next b bs (length bs) free) in
    (before_next start b bs none ∙ ap (λ xs. b ∷ xs) rest.0, after_next start b bs none ∙ rest.1)
