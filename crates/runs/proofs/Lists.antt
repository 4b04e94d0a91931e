-- Beginnings of lists, and induction by the last element. Assumes nothing.
use Rattle.std.proofs.Common.{◌≡◌, Bool, true, false, List, [], ◌∷◌, ◌++◌, sym, refl, ap, ◌∙◌, subst, inl, inr, ⊎_elim, append_assoc, append-nil}
use mathlib.Core.List.{head-eq_of_cons-eq, tail-eq_of_cons-eq}
use Rattle.runs.specs.Lists.{Beginning, Comparable, along_behind, along, joined}

pub way : {G : Type 0} (b : Bool) → (b ≡ true → G) → (b ≡ false → G) → G
way true f g = f refl
way false f g = g refl

module _ {X : Type 0} where
  pub begin_same : {xs ys : List X} → xs ≡ ys → Beginning xs ys
  begin_same {xs} e = record { rest = []; joins = append-nil xs ∙ e }

  pub begin_none : (xs : List X) → Beginning [] xs
  begin_none xs = record { rest = xs; joins = refl }

  pub begin_more : {xs ys : List X} (zs : List X) → Beginning xs ys → Beginning xs (ys ++ zs)
  begin_more {xs} zs b = record { rest = b.rest ++ zs; joins = sym (append_assoc xs b.rest zs) ∙ ap (λ l. l ++ zs) b.joins }

  pub begin_behind : (ps : List X) {xs ys : List X} → Beginning xs ys → Beginning (ps ++ xs) (ps ++ ys)
  begin_behind ps {xs} b = record { rest = b.rest; joins = append_assoc ps xs b.rest ∙ ap (λ l. ps ++ l) b.joins }

  pub begin_cons : (x : X) {xs ys : List X} → Beginning xs ys → Beginning (x ∷ xs) (x ∷ ys)
  begin_cons x b = record { rest = b.rest; joins = ap (λ l. x ∷ l) b.joins }

  pub begin_tail : {x y : X} {xs ys : List X} → Beginning (x ∷ xs) (y ∷ ys) → (x ≡ y) × Beginning xs ys
  begin_tail b = (head-eq_of_cons-eq b.joins, record { rest = b.rest; joins = tail-eq_of_cons-eq b.joins })

  -- two beginnings of one list
  pub comparable : (xs ys zs : List X) → Beginning xs zs → Beginning ys zs → Comparable xs ys
  comparable [] ys zs p q = inl (begin_none ys)
  comparable (x ∷ xs) [] zs p q = inr (begin_none (x ∷ xs))
  comparable (x ∷ xs) (y ∷ ys) zs p q =
      let e = p.joins ∙ sym q.joins in
      let smaller = comparable xs ys (ys ++ q.rest) (record { rest = p.rest; joins = tail-eq_of_cons-eq e }) (record { rest = q.rest; joins = refl }) in
      rw (head-eq_of_cons-eq e) (⊎_elim (λ b. inl (begin_cons y b)) (λ b. inr (begin_cons y b)) smaller)

  from_here : (P : List X → Type 0) → ((xs : List X) (x : X) → P xs → P (xs ++ (x ∷ []))) → (before xs : List X) → P before → P (before ++ xs)
  from_here P step before [] p = subst P (sym (append-nil before)) p
  from_here P step before (x ∷ xs) p =
      subst P (append_assoc before (x ∷ []) xs) (from_here P step (before ++ (x ∷ [])) xs (step before x p))

  pub by_the_last : (P : List X → Type 0) → P [] → ((xs : List X) (x : X) → P xs → P (xs ++ (x ∷ []))) → (xs : List X) → P xs
  by_the_last P start step xs = from_here P step [] xs start

  pub joined_last : (xss : List (List X)) (xs : List X) → joined (xss ++ (xs ∷ [])) ≡ joined xss ++ xs
  joined_last [] xs = append-nil xs
  joined_last (ys ∷ xss) xs = ap (λ l. ys ++ l) (joined_last xss xs) ∙ sym (append_assoc ys (joined xss) xs)

module _ {X Y : Type 0} (f : List X → X → Y) where
  along_behind_last : (before xs : List X) (x : X) → along_behind f before (xs ++ (x ∷ [])) ≡ along_behind f before xs ++ (f (before ++ xs) x ∷ [])
  along_behind_last before [] x = ap (λ l. f l x ∷ []) (sym (append-nil before))
  along_behind_last before (y ∷ xs) x =
      ap (λ l. f before y ∷ l)
      (along_behind_last (before ++ (y ∷ [])) xs x
      ∙ ap (λ l. along_behind f (before ++ (y ∷ [])) xs ++ (f l x ∷ [])) (append_assoc before (y ∷ []) xs))

  pub along_last : (xs : List X) (x : X) → along f (xs ++ (x ∷ [])) ≡ along f xs ++ (f xs x ∷ [])
  along_last xs x = along_behind_last [] xs x

-- what is gathered along a list, with one element more
pub gathered_last : {X Y : Type 0} (f : List X → X → List Y) (xs : List X) (x : X) → joined (along f (xs ++ (x ∷ []))) ≡ joined (along f xs) ++ f xs x
gathered_last f xs x = ap joined (along_last f xs x) ∙ joined_last (along f xs) (f xs x)
