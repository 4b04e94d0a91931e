-- What follows from the laws of a scheme. Assumes nothing.
use Rattle.std.proofs.Common.{◌≡◌, ℕ, ◌<◌, Bool, true, false, cond, Some, None, sym, refl, ◌∙◌, arith}
use Rattle.std.proofs.lemmas.Bool.{and_parts, ltb-true, lt-ltb}
use Rattle.std.proofs.lemmas.Option.{cond_some}
use Rattle.levels.specs.Scheme.{Levels, Below, Lattice, OrderDeterminesScheme, join_of}

module _ {L : Levels} (laws : Lattice L) where
  pub lowest_level : L.lowest < L.count
  lowest_level = (laws.proper _ _ (laws.bottom 0 laws.sized.0)).0

  pub join_level : (a b : ℕ) → a < L.count → b < L.count → L.join a b < L.count
  join_level a b ha hb = (laws.proper _ _ (laws.joins a b ha hb).left).1

-- what `join` answers
pub join_some : (L : Levels) (a b : ℕ) → a < L.count → b < L.count → join_of L a b ≡ Some (L.join a b)
join_some L a b ha hb = rw (lt-ltb a L.count ha, lt-ltb b L.count hb)

pub cond_none : {X : Type 0} (t : Bool) (x : X) → cond t (Some x) None ≡ None → t ≡ false
cond_none true x e = cc
cond_none false x e = refl

pub some_join : (L : Levels) (a b j : ℕ) → join_of L a b ≡ Some j → (a < L.count) × (b < L.count) × (L.join a b ≡ j)
some_join L a b j e =
    let p = cond_some _ _ _ e in
    let q = and_parts _ _ p.0 in
    (ltb-true _ _ q.0, ltb-true _ _ q.1, p.1)

-- a join is a level
pub join_answer : {L : Levels} → Lattice L → (a b j : ℕ) → join_of L a b ≡ Some j → j < L.count
join_answer {L} laws a b j e = let p = some_join L a b j e in rw p.2 at (join_level laws a b p.0 p.1)

pub never_none : {L : Levels} → Lattice L → (a b : ℕ) → a < L.count → b < L.count → join_of L a b ≡ None → ⊥
never_none {L} laws a b ha hb e = let p = join_some L a b ha hb in cc

module _ (K L : Levels) (lk : Lattice K) (ll : Lattice L) (ec : K.count ≡ L.count) (eb : (a b : ℕ) → K.below a b ≡ L.below a b) where
  to : (a b : ℕ) → Below L a b → Below K a b
  to a b h = eb a b ∙ h

  fro : (a b : ℕ) → Below K a b → Below L a b
  fro a b h = sym (eb a b) ∙ h

  same_lowest : K.lowest ≡ L.lowest
  same_lowest =
      let k = lowest_level lk in
      let l = lowest_level ll in
      lk.antisymmetric _ _ (lk.bottom L.lowest (omega arith)) (to _ _ (ll.bottom K.lowest (omega arith)))

  same_join : (a b : ℕ) → a < K.count → b < K.count → K.join a b ≡ L.join a b
  same_join a b ha hb =
      let k = lk.joins a b ha hb in
      let l = ll.joins a b (omega arith) (omega arith) in
      lk.antisymmetric _ _ (k.least _ (to _ _ l.left) (to _ _ l.right)) (to _ _ (l.least _ (fro _ _ k.left) (fro _ _ k.right)))

pub order_determines_scheme : OrderDeterminesScheme
order_determines_scheme K L lk ll ec eb = (same_lowest K L lk ll ec eb, same_join K L lk ll ec eb)
