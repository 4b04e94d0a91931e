-- The smallest level that passes a test, and the least number over the levels. Assumes nothing.
use Rattle.std.proofs.Common.{◌≡◌, ℕ, zero, suc, ◌<◌, ◌≤◌, Bool, true, false, Some, None, Option, sym, refl, ap, ◌∙◌, ⊎_elim, arith}
use Rattle.std.specs.Option.{option_or}
use Rattle.std.specs.Bool.{then_some}
use Rattle.std.proofs.lemmas.Bool.{cases_lt, both_ways}
use Rattle.runs.specs.Clashes.{least_level, least}

pub which : {X G : Type 0} (o : Option X) → (o ≡ None → G) → ((x : X) → o ≡ Some x → G) → G
which None f g = f refl
which (Some x) f g = g x refl

pub some_not_none : {X : Type 0} (x : X) → ◌≡◌ {A = Option X} (Some x) None → ⊥
some_not_none x e = let z : ◌≡◌ {A = ℕ} 0 1 = cc in omega arith

-- below n, every level that passes is at or above the one found
pub record Found (n : ℕ) (test : ℕ → Bool) (k : ℕ) : Type 0 where
  pub is_below : k < n
  pub passes : test k ≡ true
  pub none_before : (m : ℕ) → m < k → test m ≡ false

neither : (o : Option ℕ) (b : Bool) (n : ℕ) → option_or o (then_some b n) ≡ None → (o ≡ None) × (b ≡ false)
neither None true n e = absurd (some_not_none n e)
neither None false n e = (refl, refl)
neither (Some x) b n e = absurd (some_not_none x e)

pub none_found : (n : ℕ) (test : ℕ → Bool) → least_level n test ≡ None → (m : ℕ) → m < n → test m ≡ false
none_found zero test e m l = absurd (omega arith)
none_found (suc n) test e m l =
    let p = neither (least_level n test) (test n) n e in
    ⊎_elim (λ below. none_found n test p.0 m below) (λ above. let k : m ≡ n = omega arith in ap test k ∙ p.1) (cases_lt m n)

one_more : (o : Option ℕ) (n k : ℕ) (test : ℕ → Bool) → (o ≡ None → (m : ℕ) → m < n → test m ≡ false) → ((j : ℕ) → o ≡ Some j → Found n test j)
    → (b : Bool) → test n ≡ b → option_or o (then_some b n) ≡ Some k → Found (suc n) test k
one_more None n k test none old true t e =
    let z : n ≡ k = cc in rw (sym z) (record { is_below = omega arith; passes = t; none_before = none refl })
one_more None n k test none old false t e = absurd (some_not_none k (sym e))
one_more (Some j) n k test none old b t e = let f = old k e in record { is_below = omega (arith, f.is_below); passes = f.passes; none_before = f.none_before }

pub found : (n : ℕ) (test : ℕ → Bool) (k : ℕ) → least_level n test ≡ Some k → Found n test k
found zero test k e = absurd (some_not_none k (sym e))
found (suc n) test k e = one_more (least_level n test) n k test (none_found n test) (found n test) (test n) refl e

-- where none passes none is found
pub none_passes : (n : ℕ) (test : ℕ → Bool) → ((m : ℕ) → m < n → test m ≡ false) → least_level n test ≡ None
none_passes n test f =
    which (least_level n test) (λ e. e) (λ k e. let g = found n test k e in absurd (both_ways (test k) (f k g.is_below) g.passes))

pub least_at : (n : ℕ) (f : ℕ → ℕ) (most m : ℕ) → m < n → least n f most ≤ f m
least_at zero f most m l = absurd (omega arith)
least_at (suc n) f most m l =
    ⊎_elim
    (λ below. omega (arith, least_at n f most m below))
    (λ above. let k : n ≡ m = omega arith in let j : f n ≡ f m = ap f k in omega arith)
    (cases_lt m n)

-- what is at most each is at most the least
pub at_most_least : (n : ℕ) (f : ℕ → ℕ) (most k : ℕ) → k ≤ most → ((m : ℕ) → m < n → k ≤ f m) → k ≤ least n f most
at_most_least zero f most k l g = l
at_most_least (suc n) f most k l g = omega (arith, at_most_least n f most k l (λ m j. g m (omega arith)), g n (omega arith))
