-- The loop that collects the terms of an expression. Assumes nothing.
use Rattle.std.proofs.Common.{◌≡◌, ℕ, ◌+◌, ◌-◌, ◌<◌, ◌≤◌, List, [], ◌∷◌, ◌++◌, length, Some, Ok, refl, ap, ◌∙◌, arith}
use Rattle.std.proofs.lemmas.Bool.Decides.{nat_tests}
use Rattle.std.proofs.lemmas.List.{length_push}
use Rattle.text.specs.Reading.{head_of, tail_of}
use Rattle.program.specs.declared.rows.Term.{Term}
use Rattle.program.specs.declared.rows.Term.TheVariants.{Input, Constant, Variable, Operator}
use Rattle.program.specs.Terms.{term_in_head, arity_of, expression_from}

-- some terms are read, so many parts are lacking, and what is left of the same line gives the result
pub record ReadSoFar (n k : ℕ) (start : List (List ℕ)) (m : ℕ) (left : List (List ℕ)) (lacking : ℕ) (terms : List Term) : Type 0 where
  pub few : length terms ≤ 15
  pub some : lacking ≤ length terms + 1
  pub line : m ≡ n
  pub same : expression_from n k 1 [] start ≡ expression_from n (k + length terms) lacking terms left

arity_two : (t : Term) → arity_of t ≤ 2
arity_two Input = omega arith
arity_two (Constant n) = omega arith
arity_two (Variable n) = omega arith
arity_two (Operator o) = omega arith

-- one more term
pub turn : (n k lacking : ℕ) (terms : List Term) (t : Term) (fs : List (List ℕ)) → 0 < lacking → length terms < 15 → term_in_head (head_of fs) ≡ Some t
    → expression_from n k lacking terms fs ≡ expression_from n (k + 1) (lacking - 1 + arity_of t) (terms ++ t ∷ []) (tail_of fs)
turn n k lacking terms t [] h lt e = cc
turn n k lacking terms t (f ∷ fs) h lt e = grind (arith, nat_tests)

pub one_more : {n k m lacking : ℕ} {start left : List (List ℕ)} {terms : List Term} (t : Term) → ReadSoFar n k start m left lacking terms → 0 < lacking → length terms < 15 → term_in_head (head_of left) ≡ Some t
    → ReadSoFar n k start m (tail_of left) (lacking - 1 + arity_of t) (terms ++ t ∷ [])
one_more {n} {k} {m} {lacking} {start} {left} {terms} t s h lt e =
    let more : length (terms ++ t ∷ []) ≡ length terms + 1 = length_push terms t in
    let two = arity_two t in
    let so = s.some in
    record {
      few = omega arith;
      some = omega arith;
      line = s.line;
      same = s.same ∙ turn n (k + length terms) lacking terms t left h lt e ∙ ap (λ i. expression_from n i (lacking - 1 + arity_of t) (terms ++ t ∷ []) (tail_of left)) (let z : k + length terms + 1 ≡ k + length (terms ++ t ∷ []) = omega arith in z);
    }

pub done : (n k : ℕ) (terms : List Term) (fs : List (List ℕ)) → expression_from n k 0 terms fs ≡ Ok (terms, fs)
done n k terms [] = refl
done n k terms (f ∷ fs) = refl
