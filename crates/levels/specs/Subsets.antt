-- The laws of a scheme of parties, by a test of every set of four parties that antt computes. Assumes nothing.
use Rattle.std.proofs.Common.{◌≡◌, ℕ, zero, suc, ◌^◌, ◌<◌, ◌≤◌, Bool, true, false, ◌&&◌, eqb, refl, ⊎_elim, arith, pow_pos, pow_mono}
use lib.Bits.{bit_and, bit_or, and_self, and_le_r, or_lt}
use Rattle.std.proofs.lemmas.Bool.{and_parts, and_from, eqb-true, eq-eqb, ltb-true, lt-ltb, cases_eq, false≢true}
use Rattle.levels.specs.Scheme.{Below, Proper, Lattice}
use Rattle.levels.specs.Parties.{parties}

-- the test passes at each number below n
abbrev every : ℕ → (ℕ → Bool) → Bool
every zero f = true
every (suc n) f = f n && every n f

pub at : (n : ℕ) (f : ℕ → Bool) → every n f ≡ true → (k : ℕ) → k < n → f k ≡ true
at zero f e k h = absurd (omega arith)
at (suc n) f e k h =
    let parts = and_parts (f n) (every n f) e in
    ⊎_elim (λ (q : k ≡ n). rw q parts.0) (λ q. at n f parts.1 k (omega arith)) (cases_eq k n)

abbrev subset : ℕ → ℕ → Bool
subset a b = eqb (bit_and a b) a

abbrev implies : Bool → Bool → Bool
implies true b = b
implies false b = true

-- the laws that speak of three sets, as one test
abbrev fine : ℕ → ℕ → ℕ → Bool
fine a b c =
    implies (subset a b && subset b c) (subset a c)
    && (subset a (bit_or a b) && (subset b (bit_or a b) && implies (subset a c && subset b c) (subset (bit_or a b) c)))

implied : (x y : Bool) → implies x y ≡ true → x ≡ true → y ≡ true
implied true y e p = e
implied false y e p = absurd (false≢true p)

all_fine : every 16 (λ a. every 16 (λ b. every 16 (λ c. fine a b c))) ≡ true
all_fine = refl

fine_at : (a b c : ℕ) → a < 16 → b < 16 → c < 16 → fine a b c ≡ true
fine_at a b c ha hb hc = at 16 (λ c. fine a b c) (at 16 (λ b. every 16 (λ c. fine a b c)) (at 16 (λ a. every 16 (λ b. every 16 (λ c. fine a b c))) all_fine a ha) b hb) c hc

small : (n : ℕ) → n ≤ 4 → 2 ^ n ≤ 16
small n h = pow_mono h

module _ (n : ℕ) (few : n ≤ 4) where
  split : (a b : ℕ) → Below (parties n) a b → (subset a b ≡ true) × (b < 2 ^ n)
  split a b h = let p = and_parts _ _ h in (p.0, ltb-true _ _ p.1)

  made : (a b : ℕ) → subset a b ≡ true → b < 2 ^ n → Below (parties n) a b
  made a b s h = and_from _ _ s (lt-ltb _ _ h)

  -- a subset is no larger a number
  smaller : (a b : ℕ) → subset a b ≡ true → a ≤ b
  smaller a b s = let e = eqb-true _ _ s in rw e at (and_le_r a b)

  parties_proper : Proper (parties n)
  parties_proper a b h = let p = split a b h in let q = smaller a b p.0 in (omega arith, p.1)

  laws_at : (a b c : ℕ) → a < 2 ^ n → b < 2 ^ n → c < 2 ^ n
      → (implies (subset a b && subset b c) (subset a c) ≡ true) × (subset a (bit_or a b) ≡ true) × (subset b (bit_or a b) ≡ true) × (implies (subset a c && subset b c) (subset (bit_or a b) c) ≡ true)
  laws_at a b c ha hb hc =
      let s = small n few in
      let t = and_parts _ _ (fine_at a b c (omega arith) (omega arith) (omega arith)) in
      let u = and_parts _ _ t.1 in
      let v = and_parts _ _ u.1 in
      (t.0, u.0, v.0, v.1)

  pub parties_lawful : Lattice (parties n)
  parties_lawful = record {
    sized = (pow_pos n, small n few);
    proper = parties_proper;
    reflexive = λ a h. made a a (eq-eqb _ _ (and_self a)) h;
    antisymmetric = λ a b h k.
        let p = split a b h in
        let q = split b a k in
        let x = smaller a b p.0 in
        let y = smaller b a q.0 in
        omega arith;
    transitive = λ a b c h k.
        let p = split a b h in
        let q = split b c k in
        made a c (implied _ _ (laws_at a b c (parties_proper a b h).0 (parties_proper a b h).1 (parties_proper b c k).1).0 (and_from _ _ p.0 q.0)) q.1;
    bottom = λ a h. made 0 a refl h;
    joins = λ a b ha hb.
        let f = λ (c : ℕ) (hc : c < 2 ^ n). laws_at a b c ha hb hc in
        record {
          left = made a (bit_or a b) (f a ha).1 (or_lt n a b ha hb);
          right = made b (bit_or a b) (f a ha).2 (or_lt n a b ha hb);
          least = λ c h k. let p = split a c h in made (bit_or a b) c (implied _ _ (f c p.1).3 (and_from _ _ p.0 (split b c k).0)) p.1;
        };
  }
