-- The open rows, where one more is opened, or the innermost one ends. Assumes nothing.
use Rattle.std.proofs.Common.{◌≡◌, ℕ, ◌+◌, ◌<◌, List, [], ◌∷◌, ◌++◌, reverse, length, ap, ◌∙◌, subst, sym, arith}
use Rattle.std.proofs.lemmas.List.{reverse-append, length-reverse}
use Rattle.std.specs.List.{AllByRecursion}
use Rattle.program.specs.Open.{Among}

below_more : (m : ℕ) (os : List ℕ) → AllByRecursion (λ o. o < m) os → AllByRecursion (λ o. o < m + 1) os
below_more m [] h = tt
below_more m (o ∷ os) h = (let a = h.0 in omega arith, below_more m os h.1)

pub kept : (m : ℕ) (os : List ℕ) → Among m os → Among (m + 1) os
kept m os a = record { few = a.few; below = below_more m os a.below }

-- the last one is the first from behind
pub innermost : (xs ys : List ℕ) (o : ℕ) → xs ≡ ys ++ o ∷ [] → reverse xs ≡ o ∷ reverse ys
innermost xs ys o e = ap reverse e ∙ reverse-append ys (o ∷ [])

pub opened : (m : ℕ) (xs ys : List ℕ) → Among m (reverse xs) → length xs < 9 → ys ≡ xs ++ m ∷ [] → Among (m + 1) (reverse ys)
opened m xs ys a lt e =
    subst (λ (os : List ℕ). Among (m + 1) os) (sym (innermost ys xs m e))
    record { few = omega (arith, length-reverse xs); below = (omega arith, below_more m (reverse xs) a.below) }

inside : (m o : ℕ) (os : List ℕ) → Among m (o ∷ os) → Among m os
inside m o os a = let f = a.few in record { few = omega arith; below = a.below.1 }

module _ (m o : ℕ) (xs ys : List ℕ) (a : Among m (reverse xs)) (e : xs ≡ ys ++ o ∷ []) where
  rest : Among m (reverse ys)
  rest = inside m o (reverse ys) (subst (λ (os : List ℕ). Among m os) (innermost xs ys o e) a)

  pub ended : Among (m + 1) (reverse ys)
  ended = kept m (reverse ys) rest

  pub turned : (zs : List ℕ) → zs ≡ ys ++ m ∷ [] → Among (m + 1) (reverse zs)
  turned zs f =
      let few : length ys < 9 = omega (arith, a.few, length-reverse xs, ap length e, length-reverse ys, ap length (innermost xs ys o e)) in
      opened m ys zs rest few f
