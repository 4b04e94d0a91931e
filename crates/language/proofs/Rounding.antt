-- The rounded value is the nearest multiple. Assumes nothing.
use Rattle.std.proofs.Common.{◌≡◌, ℕ, suc, ◌+◌, ◌*◌, ◌/◌, ◌%◌, ◌^◌, ◌<◌, ◌≤◌, ltb, ◌⊎◌, refl, inl, inr, ⊎_elim, mul-le-mul_right, suc-mul, arith}
use Rattle.std.proofs.lemmas.Nat.{div-add-mod', mod_below}
use Rattle.std.proofs.lemmas.Bool.{cases_lt, cond_both, cond-true, ltb-true, ltb-false, eq-eqb, ne_eqb}
use Rattle.language.specs.Operators.{lower, rounded, Multiple, Nearest, Rounds}

-- a multiple is at most that of q, or at least that of q + 1
either_side : (q b k : ℕ) → (k * b ≤ q * b) ⊎ (q * b + b ≤ k * b)
either_side q b k =
    ⊎_elim (λ (h : k < suc q). inl (mul-le-mul_right b (omega arith))) (λ (h : suc q ≤ k). inr (omega (arith, mul-le-mul_right b h, suc-mul q b))) (cases_lt k (suc q))

module _ (a b : ℕ) (some : 0 < b) where
  parts : lower a b + a % b ≡ a
  parts = div-add-mod' a b

  short : a % b < b
  short = mod_below a b some

  -- any other multiple m is at or below the lower one, or at or above the next
  sides : (m : ℕ) → Multiple b m → (m ≤ lower a b) ⊎ (lower a b + b ≤ m)
  sides m (q, e) = rw e (either_side (a / b) b q)

  lower_nearest : 2 * (a % b) < b → Nearest a b (lower a b)
  lower_nearest near = record {
    multiple = (a / b, refl);
    nearest = λ m k h. ⊎_elim (λ (s : m ≤ lower a b). omega (arith, parts, short)) (λ (s : lower a b + b ≤ m). omega (arith, parts, short)) (sides m k);
    upper = λ m k h e. ⊎_elim (λ (s : m ≤ lower a b). s) (λ (s : lower a b + b ≤ m). absurd (omega (arith, parts, short))) (sides m k);
  }

  upper_nearest : b ≤ 2 * (a % b) → Nearest a b (lower a b + b)
  upper_nearest far = record {
    multiple = (suc (a / b), omega (arith, suc-mul (a / b) b));
    nearest = λ m k h. ⊎_elim (λ (s : m ≤ lower a b). omega (arith, parts, short)) (λ (s : lower a b + b ≤ m). omega (arith, parts, short)) (sides m k);
    upper = λ m k h e. ⊎_elim (λ (s : m ≤ lower a b). omega (arith, parts, short)) (λ (s : lower a b + b ≤ m). omega (arith, parts, short)) (sides m k);
  }

  last_nearest : 2 ^ 32 ≤ lower a b + b → Nearest a b (lower a b)
  last_nearest past = record {
    multiple = (a / b, refl);
    nearest = λ m k h. ⊎_elim (λ (s : m ≤ lower a b). omega (arith, parts, short)) (λ (s : lower a b + b ≤ m). absurd (omega arith)) (sides m k);
    upper = λ m k h e. ⊎_elim (λ (s : m ≤ lower a b). s) (λ (s : lower a b + b ≤ m). absurd (omega arith)) (sides m k);
  }

  rounded_nearest : Nearest a b (rounded a b)
  rounded_nearest =
      rw (ne_eqb b 0 (omega arith))
      (cond_both (ltb (2 * (a % b)) b) (lower a b) _ (Nearest a b)
      (λ e. lower_nearest (ltb-true _ _ e))
      (λ e. cond_both (ltb (lower a b + b) (2 ^ 32)) (lower a b + b) (lower a b) (Nearest a b) (λ _. upper_nearest (ltb-false _ _ e)) (λ f. last_nearest (ltb-false _ _ f))))

pub rounds : (a b r : ℕ) → r ≡ rounded a b → Rounds a b r
rounds a b r e = rw e (λ z. cond-true _ _ _ (eq-eqb b 0 z), λ some. rounded_nearest a b some)
