-- The kind and the place of a parting tell how the runs part. Assumes nothing.
use Rattle.std.proofs.Common.{◌≡◌, ℕ, suc, Bool, true, false, cond, List, [], ◌∷◌, ◌++◌, filter, sym, refl, ap, ◌∙◌, subst, append_assoc}
use Rattle.std.proofs.lemmas.Bool.{both_ways}
use Rattle.ticket.specs.declared.Ticket.{Ticket}
use Rattle.runs.specs.Clashes.{Kind, missing, extra, different, same, Parting, one_on, parting}
use Rattle.runs.specs.Lists.{Beginning}
use Rattle.runs.specs.Laws.{Parts, Tells}
use Rattle.runs.proofs.Lists.{way, begin_none, begin_behind}
use Rattle.runs.proofs.Partings.{same_eq, same_itself}

module _ (sees : Ticket → Bool) where
  module _ (x : Ticket) (pre : List Ticket) (f : (l : List Ticket) → filter sees (x ∷ l) ≡ pre ++ filter sees l) where
    parts_in_front : (xs ys : List Ticket) (n : ℕ) (z : Ticket) (others : List Ticket) → Parts sees xs ys n z others → Parts sees (x ∷ xs) (pre ++ ys) (suc n) z others
    parts_in_front xs ys n z others p =
        record {
          front = x ∷ p.front;
          more = p.more;
          bare_is = ap (λ l. x ∷ l) p.bare_is;
          counted = ap suc p.counted;
          seen_there = p.seen_there;
          shadow_is = ap (λ l. l ++ others) (f p.front) ∙ append_assoc pre (filter sees p.front) others ∙ ap (λ l. pre ++ l) p.shadow_is;
        }

    -- one bare ticket more in front, and what is seen of it in front of the shadow's
    in_front : (k : Kind) (xs ys : List Ticket) (n : ℕ) → Tells k sees xs ys n → Tells k sees (x ∷ xs) (pre ++ ys) (suc n)
    in_front missing xs ys n p = (ap suc p.0, subst (λ (l : List Ticket). Beginning l (pre ++ ys)) (sym (f xs)) (begin_behind pre p.1))
    in_front extra xs ys n p = (p.0, parts_in_front xs ys n p.0 [] p.1)
    in_front different xs ys n p = (p.0, p.1, p.2, parts_in_front xs ys n p.0 (p.1 ∷ p.2) p.3, p.4)

  abbrev Told : Parting → List Ticket → List Ticket → Type 0
  Told p xs ys = Tells p.kind sees xs ys p.place

  -- past a ticket that the level does not see, and past one that the shadow matches
  past_hidden : (x : Ticket) (xs ys : List Ticket) → sees x ≡ false → Told (parting sees xs ys) xs ys → Told (one_on (parting sees xs ys)) (x ∷ xs) ys
  past_hidden x xs ys e =
      in_front x [] (λ l. ap (λ b. cond b (x ∷ filter sees l) (filter sees l)) e) (parting sees xs ys).kind xs ys (parting sees xs ys).place

  past_matched : (x : Ticket) (xs ys : List Ticket) → sees x ≡ true → Told (parting sees xs ys) xs ys → Told (one_on (parting sees xs ys)) (x ∷ xs) (x ∷ ys)
  past_matched x xs ys e =
      in_front x (x ∷ []) (λ l. ap (λ b. cond b (x ∷ filter sees l) (filter sees l)) e) (parting sees xs ys).kind xs ys (parting sees xs ys).place

  here : (x : Ticket) (xs ys : List Ticket) → sees x ≡ true → Parts sees (x ∷ xs) ys 0 x ys
  here x xs ys e = record { front = []; more = xs; bare_is = refl; counted = refl; seen_there = e; shadow_is = refl }

  pub parting_tells : (xs ys : List Ticket) → Told (parting sees xs ys) xs ys
  parting_tells [] ys = (refl, begin_none ys)
  parting_tells (x ∷ xs) [] =
      way (sees x) (λ e. rw e (x, here x xs [] e)) (λ e. rw e (past_hidden x xs [] e (parting_tells xs [])))
  parting_tells (x ∷ xs) (y ∷ ys) =
      way (sees x)
      (λ e.
      way (same x y)
      (λ s. rw (e, s, sym (same_eq x y s)) (past_matched x xs ys e (parting_tells xs ys)))
      (λ s. rw (e, s) (x, y, ys, here x xs (y ∷ ys) e, λ q. both_ways (same x y) s (subst (λ (z : Ticket). same x z ≡ true) q (same_itself x)))))
      (λ e. rw e (past_hidden x xs (y ∷ ys) e (parting_tells xs (y ∷ ys))))
