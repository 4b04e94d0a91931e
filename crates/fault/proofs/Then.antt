-- What follows of a value that was handed on, or of a refusal that was kept. Assumes nothing.
use Rattle.std.proofs.Common.{◌≡◌, Bool, true, false, cond, Ok, Err, Result, refl, ap, ◌∙◌}
use Rattle.fault.specs.declared.Fault.{Fault}
use Rattle.fault.specs.Faults.{then}

module _ {X : Type 0} where
  pub same_ok : (x y : X) → ◌≡◌ {A = Result X Fault} (Ok x) (Ok y) → x ≡ y
  same_ok x y e = cc

  pub same_err : (f g : Fault) → ◌≡◌ {A = Result X Fault} (Err f) (Err g) → f ≡ g
  same_err f g e = cc

  pub ok_not_err : (x : X) (f : Fault) → ◌≡◌ {A = Result X Fault} (Ok x) (Err f) → ⊥
  ok_not_err x f e = cc

  -- a value that a test lets through
  pub cond_ok : (b : Bool) (r : Result X Fault) (f : Fault) (x : X) → cond b r (Err f) ≡ Ok x → (b ≡ true) × (r ≡ Ok x)
  cond_ok true r f x e = (refl, e)
  cond_ok false r f x e = cc

module _ {X Y : Type 0} where
  -- a value comes of a value that was handed on
  pub then_ok : (r : Result X Fault) (next : X → Result Y Fault) (y : Y) → then r next ≡ Ok y → (x : X) × (r ≡ Ok x) × (next x ≡ Ok y)
  then_ok (Ok x) next y e = (x, refl, e)
  then_ok (Err f) next y e = cc

  pub ok_then : {r : Result X Fault} {x : X} (next : X → Result Y Fault) (y : Result Y Fault) → r ≡ Ok x → next x ≡ y → then r next ≡ y
  ok_then next y e f = ap (λ q. then q next) e ∙ f
