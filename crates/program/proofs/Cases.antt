-- What a value says of the test before it. Assumes nothing.
use Rattle.std.proofs.Common.{◌≡◌, Bool, true, false, cond, Some, refl}

pub split : {A : Type 0} {P : Type 0} (b : Bool) (x y v : A) → cond b x y ≡ v → (b ≡ true → x ≡ v → P) → (b ≡ false → y ≡ v → P) → P
split true x y v e f g = f refl e
split false x y v e f g = g refl e

-- a test that holds only where another does
pub both_true : (a b : Bool) → cond a b false ≡ true → (a ≡ true) × (b ≡ true)
both_true true b e = (refl, e)
both_true false b e = cc

-- a test that decides nothing
pub neither : (b : Bool) → cond b false false ≡ false
neither true = refl
neither false = refl

-- what an option holds
pub same_some : {X : Type 0} {x y : X} → Some x ≡ Some y → x ≡ y
same_some e = cc
