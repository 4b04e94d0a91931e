-- Chains and pairs have the laws of a scheme, a pair since its parts have them. Assumes nothing.
use Rattle.std.proofs.Common.{◌≡◌, ℕ, ◌+◌, ◌*◌, ◌/◌, ◌%◌, ◌<◌, ◌≤◌, true, false, ◌&&◌, ltb, leb, Some, None, sym, ap, ◌∙◌, ⊎_elim, div-lt_iff_lt-mul, arith, rules}
use mathlib.Core.Path.{subst⁻¹}
use lib.Arith.{digits_lt}
use Rattle.std.proofs.lemmas.Nat.{div-mul-add, mod-mul-add, div_below, mod_below, div-add-mod', mul-le}
use Rattle.std.proofs.lemmas.Bool.{and_parts, and_from, cond_both, leb-true, lt-ltb, cond-true, cond-false, le-ltb, cases_lt}
use Rattle.levels.specs.Scheme.{Levels, Below, Proper, Reflexive, Antisymmetric, Transitive, Bottom, Joins, Lattice, join_of}
use Rattle.levels.specs.Chain.{chain}
use Rattle.levels.specs.Pair.{product, is_pair, pair}
use Rattle.levels.specs.Lattices.{lowest_level, join_level, join_some, some_join, cond_none}

pub chain_lawful : (n : ℕ) → 1 ≤ n → n ≤ 16 → Lattice (chain n)
chain_lawful n lo hi = record {
  sized = (lo, hi);
  proper = search rules;
  reflexive = search rules;
  antisymmetric = search rules;
  transitive = search rules;
  bottom = search rules;
  joins = search rules;
}

module _ {P Q : Levels} (lp : Lattice P) (lq : Lattice Q) where
  -- a number is below the count where its two parts are levels
  inside : (m : ℕ) → m / Q.count < P.count → m < P.count * Q.count
  inside m h = (div-lt_iff_lt-mul lq.sized.0).0 h

  high : (m : ℕ) → m < P.count * Q.count → m / Q.count < P.count
  high m h = div_below m Q.count P.count lq.sized.0 h

  low : (m : ℕ) → m % Q.count < Q.count
  low m = mod_below m Q.count lq.sized.0

  product_proper : Proper (product P Q)
  product_proper m n h =
      let parts = lp.proper _ _ (and_parts _ _ h).0 in
      (inside m parts.0, inside n parts.1)

  product_reflexive : Reflexive (product P Q)
  product_reflexive a h = and_from _ _ (lp.reflexive _ (high a h)) (lq.reflexive _ (low a))

  product_antisymmetric : Antisymmetric (product P Q)
  product_antisymmetric m n h k =
      let p : m / Q.count ≡ n / Q.count = lp.antisymmetric (m / Q.count) (n / Q.count) (and_parts _ _ h).0 (and_parts _ _ k).0 in
      let q : m % Q.count ≡ n % Q.count = lq.antisymmetric (m % Q.count) (n % Q.count) (and_parts _ _ h).1 (and_parts _ _ k).1 in
      let e = div-add-mod' m Q.count in
      let f = div-add-mod' n Q.count in
      cc

  product_transitive : Transitive (product P Q)
  product_transitive a b c h k =
      and_from _ _ (lp.transitive _ _ _ (and_parts _ _ h).0 (and_parts _ _ k).0) (lq.transitive _ _ _ (and_parts _ _ h).1 (and_parts _ _ k).1)

  -- the pair (p, q) compared with n is its parts compared with n's
  from_parts : (p q n : ℕ) → q < Q.count → Below P p (n / Q.count) → Below Q q (n % Q.count) → Below (product P Q) (p * Q.count + q) n
  from_parts p q n h x y =
      let u : Below P ((p * Q.count + q) / Q.count) (n / Q.count) = rw (div-mul-add p Q.count q h) x in
      let v : Below Q ((p * Q.count + q) % Q.count) (n % Q.count) = rw (mod-mul-add p Q.count q h) y in
      and_from _ _ u v

  to_parts : (p q n : ℕ) → q < Q.count → Below P (n / Q.count) p → Below Q (n % Q.count) q → Below (product P Q) n (p * Q.count + q)
  to_parts p q n h x y =
      let u : Below P (n / Q.count) ((p * Q.count + q) / Q.count) = rw (div-mul-add p Q.count q h) x in
      let v : Below Q (n % Q.count) ((p * Q.count + q) % Q.count) = rw (mod-mul-add p Q.count q h) y in
      and_from _ _ u v

  product_bottom : Bottom (product P Q)
  product_bottom a h = from_parts P.lowest Q.lowest a (lowest_level lq) (lp.bottom _ (high a h)) (lq.bottom _ (low a))

  product_joins : Joins (product P Q)
  product_joins a b ha hb =
      let p = lp.joins (a / Q.count) (b / Q.count) (high a ha) (high b hb) in
      let q = lq.joins (a % Q.count) (b % Q.count) (low a) (low b) in
      let l = join_level lq (a % Q.count) (b % Q.count) (low a) (low b) in
      record {
        left = to_parts _ _ a l p.left q.left;
        right = to_parts _ _ b l p.right q.right;
        least = λ c h k. from_parts _ _ c l (p.least _ (and_parts _ _ h).0 (and_parts _ _ k).0) (q.least _ (and_parts _ _ h).1 (and_parts _ _ k).1);
      }

  pub product_lawful : P.count * Q.count ≤ 16 → Lattice (product P Q)
  product_lawful h = record {
    sized = (mul-le 1 1 P.count Q.count lp.sized.0 lq.sized.0, h);
    proper = product_proper;
    reflexive = product_reflexive;
    antisymmetric = product_antisymmetric;
    transitive = product_transitive;
    bottom = product_bottom;
    joins = product_joins;
  }

  pub pair_lawful : Lattice (pair P Q)
  pair_lawful =
      cond_both (leb (P.count * Q.count) 16) (product P Q) (chain 1) Lattice (λ e. product_lawful (leb-true _ _ e)) (λ e. chain_lawful 1 (omega arith) (omega arith))

  -- what a pair of at most 16 levels answers, by its parts
  same_test : (m : ℕ) → ltb m (P.count * Q.count) ≡ ltb (m / Q.count) P.count
  same_test m =
      ⊎_elim (λ h. lt-ltb _ _ h ∙ sym (lt-ltb _ _ (high m h)))
      (λ h. le-ltb _ _ h ∙ sym (le-ltb _ _ (⊎_elim (λ (k : m / Q.count < P.count). let l = inside m k in absurd (omega arith)) (λ k. k) (cases_lt (m / Q.count) P.count))))
      (cases_lt m (P.count * Q.count))

  pub pair_join_none : (m n : ℕ) → is_pair P Q ≡ true → join_of P (m / Q.count) (n / Q.count) ≡ None → join_of (pair P Q) m n ≡ None
  pair_join_none m n small e =
      let t = cond_none _ _ e in
      let u : (ltb m (P.count * Q.count) && ltb n (P.count * Q.count)) ≡ false = rw (same_test m, same_test n) t in
      subst⁻¹ (λ (L : Levels). join_of L m n ≡ None) (cond-true _ _ _ small) (cond-false _ (Some ((product P Q).join m n)) None u)

  pub pair_join_some : (m n p q : ℕ) → is_pair P Q ≡ true → join_of P (m / Q.count) (n / Q.count) ≡ Some p → join_of Q (m % Q.count) (n % Q.count) ≡ Some q → join_of (pair P Q) m n ≡ Some (p * Q.count + q)
  pair_join_some m n p q small e f =
      let x = some_join P _ _ _ e in
      let y = some_join Q _ _ _ f in
      let all = join_some (product P Q) m n (inside m x.0) (inside n x.1) in
      subst⁻¹ (λ (L : Levels). join_of L m n ≡ Some (p * Q.count + q)) (cond-true _ _ _ small)
      (all ∙ ap Some (ap (λ (z : ℕ). z * Q.count + Q.join (m % Q.count) (n % Q.count)) x.2 ∙ ap (λ (z : ℕ). p * Q.count + z) y.2))

-- the number of a level with two parts is below 16
pub parts_fit : (a b p q : ℕ) → leb (a * b) 16 ≡ true → p < a → q < b → p * b + q < 16
parts_fit a b p q small hp hq = let l = digits_lt {m = a} hp hq in omega (arith, leb-true (a * b) 16 small)
