-- Tests on lists of tickets tell what they say, and where a shadow parts from the bare run. Assumes nothing.
use Rattle.std.proofs.Common.{◌≡◌, ℕ, zero, suc, ◌≤◌, Bool, true, false, not, ◌&&◌, ◌||◌, eqb, ◌↔◌, List, [], ◌∷◌, ◌++◌, length, take, filter, sym, refl, ap, subst, inl, inr, ⊎_elim, arith}
use Rattle.std.proofs.lemmas.Bool.{and_parts, and_from, or_left, or_right, or_cases, eqb-true, eq-eqb, both_ways, not-true, not-false}
use Rattle.ticket.specs.declared.Ticket.{Ticket}
use Rattle.runs.specs.Clashes.{same, begins, clash, parting}
use Rattle.runs.specs.Lists.{Beginning, Comparable}
use Rattle.runs.specs.Promises.{Clash}
use Rattle.runs.proofs.Lists.{way, begin_none, begin_cons, begin_same, begin_tail}

pub same_eq : (s t : Ticket) → same s t ≡ true → s ≡ t
same_eq s t e =
    let p = and_parts (eqb s.channel t.channel) (eqb s.value t.value) e in
    let a = eqb-true s.channel t.channel p.0 in
    let b = eqb-true s.value t.value p.1 in
    λ i. record { channel = a i; value = b i }

pub same_itself : (s : Ticket) → same s s ≡ true
same_itself s = and_from (eqb s.channel s.channel) (eqb s.value s.value) (eq-eqb s.channel s.channel refl) (eq-eqb s.value s.value refl)

pub beginning_from_test : (xs ys : List Ticket) → begins xs ys ≡ true → Beginning xs ys
beginning_from_test [] ys e = begin_none ys
beginning_from_test (x ∷ xs) [] e = absurd (both_ways false refl e)
beginning_from_test (x ∷ xs) (y ∷ ys) e =
    let p = and_parts (same x y) (begins xs ys) e in rw (same_eq x y p.0) (begin_cons y (beginning_from_test xs ys p.1))

begins_more : (xs zs : List Ticket) → begins xs (xs ++ zs) ≡ true
begins_more [] zs = refl
begins_more (x ∷ xs) zs = and_from (same x x) (begins xs (xs ++ zs)) (same_itself x) (begins_more xs zs)

pub test_from_beginning : (xs ys : List Ticket) → Beginning xs ys → begins xs ys ≡ true
test_from_beginning xs ys b = subst (λ (l : List Ticket). begins xs l ≡ true) b.joins (begins_more xs b.rest)

same_from_both : (xs ys : List Ticket) → begins xs ys ≡ true → begins ys xs ≡ true → xs ≡ ys
same_from_both [] [] p q = refl
same_from_both [] (y ∷ ys) p q = absurd (both_ways false refl q)
same_from_both (x ∷ xs) [] p q = absurd (both_ways false refl p)
same_from_both (x ∷ xs) (y ∷ ys) p q =
    let a = and_parts (same x y) (begins xs ys) p in
    let b = and_parts (same y x) (begins ys xs) q in
    let e = same_eq x y a.0 in
    let f = same_from_both xs ys a.1 b.1 in
    cc

-- a test that fails exactly where something holds
fails : (b : Bool) (P : Type 0) → (b ≡ true → P) → (P → b ≡ true) → (not b ≡ true) ↔ (P → ⊥)
fails b P f g = ((λ n p. both_ways b (not-true b n) (g p)), (λ n. way b (λ e. absurd (n (f e))) (λ e. ap not e)))

-- the test of a clash tells whether there is one
pub clash_told : (a : Bool) (xs : List Ticket) (b : Bool) (ys : List Ticket) → (clash a xs b ys ≡ true) ↔ Clash a xs b ys
clash_told false xs false ys =
    fails (begins xs ys && begins ys xs) (xs ≡ ys)
    (λ e. let p = and_parts (begins xs ys) (begins ys xs) e in same_from_both xs ys p.0 p.1)
    (λ e. and_from (begins xs ys) (begins ys xs) (test_from_beginning xs ys (begin_same e)) (test_from_beginning ys xs (begin_same (sym e))))
clash_told true xs false ys = fails (begins xs ys) (Beginning xs ys) (beginning_from_test xs ys) (test_from_beginning xs ys)
clash_told false xs true ys = fails (begins ys xs) (Beginning ys xs) (beginning_from_test ys xs) (test_from_beginning ys xs)
clash_told true xs true ys =
    fails (begins xs ys || begins ys xs) (Comparable xs ys)
    (λ e. ⊎_elim (λ p. inl (beginning_from_test xs ys p)) (λ p. inr (beginning_from_test ys xs p)) (or_cases (begins xs ys) (begins ys xs) e))
    (λ c. ⊎_elim
    (λ p. or_left (begins xs ys) (begins ys xs) (test_from_beginning xs ys p))
    (λ p. or_right (begins xs ys) (begins ys xs) (test_from_beginning ys xs p)) c)

-- where both ended and do not clash, the two lists are the same
pub same_from_calm : (a : Bool) (xs : List Ticket) (b : Bool) (ys : List Ticket) → a ≡ false → b ≡ false → clash a xs b ys ≡ false → xs ≡ ys
same_from_calm a xs b ys p q e =
    let f = not-false (begins xs ys && begins ys xs) (rw (p, q) at e) in
    let g = and_parts (begins xs ys) (begins ys xs) f in
    same_from_both xs ys g.0 g.1

module _ (sees : Ticket → Bool) where
  -- up to the place the shadow matches what is seen
  pub matched_to_place : (n : ℕ) (xs ys : List Ticket) → n ≤ (parting sees xs ys).place → Beginning (filter sees (take n xs)) ys
  matched_to_place zero xs ys l = begin_none ys
  matched_to_place (suc n) [] ys l = begin_none ys
  matched_to_place (suc n) (x ∷ xs) [] l =
      way (sees x)
      (λ e. absurd (let k = rw e at l in omega arith))
      (λ e. let k = rw e at l in rw e (matched_to_place n xs [] (omega arith)))
  matched_to_place (suc n) (x ∷ xs) (y ∷ ys) l =
      way (sees x)
      (λ e.
      way (same x y)
      (λ s. let k = rw (e, s) at l in rw (e, same_eq x y s) (begin_cons y (matched_to_place n xs ys (omega arith))))
      (λ s. absurd (let k = rw (e, s) at l in omega arith)))
      (λ e. let k = rw e at l in rw e (matched_to_place n xs (y ∷ ys) (omega arith)))

  -- and not beyond it
  pub place_is_last : (n : ℕ) (xs ys : List Ticket) → n ≤ length xs → Beginning (filter sees (take n xs)) ys → n ≤ (parting sees xs ys).place
  place_is_last zero xs ys l b = omega arith
  place_is_last (suc n) [] ys l b = absurd (omega arith)
  place_is_last (suc n) (x ∷ xs) [] l b =
      way (sees x)
      (λ e. absurd (let k = rw e at b.joins in let z : ◌≡◌ {A = ℕ} 0 1 = cc in omega arith))
      (λ e. let k = place_is_last n xs [] (omega arith) (rw e at b) in rw e (omega arith))
  place_is_last (suc n) (x ∷ xs) (y ∷ ys) l b =
      way (sees x)
      (λ e.
      let p = begin_tail (rw e at b) in
      let s = subst (λ (z : Ticket). same x z ≡ true) p.0 (same_itself x) in
      let k = place_is_last n xs ys (omega arith) p.1 in
      rw (e, s) (omega arith))
      (λ e. let k = place_is_last n xs (y ∷ ys) (omega arith) (rw e at b) in rw e (omega arith))
