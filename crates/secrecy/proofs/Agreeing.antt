-- Stores and tickets as an observer sees them. Assumes nothing.
use Rattle.std.proofs.Common.{◌≡◌, ℕ, zero, suc, true, false, cond, List, [], ◌∷◌, ◌++◌, length, get_or, set, sym, refl, ap, ◌∙◌, subst, ap₂, ⊎_elim, append_assoc, append-nil, arith, length-set, get_or-set_other}
use Rattle.std.proofs.lemmas.List.Elements.{filter-append}
use Rattle.std.proofs.lemmas.Bool.{both_ways, cases_Bool}
use Rattle.ticket.specs.declared.Ticket.{Ticket}
use Rattle.secrecy.specs.Observer.{Observer, seen, Agree}
use Rattle.secrecy.specs.Alike.{Beginning}

-- a list of one ticket
abbrev pub single : ℕ → ℕ → List Ticket
single c v = record { channel = c; value = v } ∷ []

pub begins_itself : (xs : List Ticket) → Beginning xs xs
begins_itself xs = record { rest = []; joined = append-nil xs }

-- a write at one place leaves two lists alike wherever they were
set_alike : (r s : List ℕ) (v u n : ℕ) → length r ≡ length s → get_or r u 0 ≡ get_or s u 0 → get_or (set r v n) u 0 ≡ get_or (set s v n) u 0
set_alike [] [] v u n l e = refl
set_alike [] (y ∷ ys) v u n l e = absurd (omega arith)
set_alike (x ∷ xs) [] v u n l e = absurd (omega arith)
set_alike (x ∷ xs) (y ∷ ys) zero zero n l e = refl
set_alike (x ∷ xs) (y ∷ ys) zero (suc u) n l e = e
set_alike (x ∷ xs) (y ∷ ys) (suc v) zero n l e = e
set_alike (x ∷ xs) (y ∷ ys) (suc v) (suc u) n l e = set_alike xs ys v u n (omega arith) e

module _ (O : Observer) where
  pub agree_refl : (s : List ℕ) → Agree O s s
  agree_refl s = record { as_long = refl; same = λ v h. refl }

  pub agree_sym : {r s : List ℕ} → Agree O r s → Agree O s r
  agree_sym a = record { as_long = sym a.as_long; same = λ v h. sym (a.same v h) }

  pub agree_trans : {r s t : List ℕ} → Agree O r s → Agree O s t → Agree O r t
  agree_trans a b = record { as_long = a.as_long ∙ b.as_long; same = λ v h. a.same v h ∙ b.same v h }

  -- a variable that the observer does not read is written
  pub agree_hidden : (s : List ℕ) (v n : ℕ) → O.reads v ≡ false → Agree O (set s v n) s
  agree_hidden s v n h = record {
    as_long = length-set s v n;
    same = λ u t. get_or-set_other s v u n 0 (λ e. both_ways (O.reads v) h (ap O.reads (sym e) ∙ t));
  }

  -- a variable is written, with the same value if the observer reads it
  pub agree_set : {r s : List ℕ} (v j n : ℕ) → (O.reads v ≡ true → j ≡ n) → Agree O r s → Agree O (set r v j) (set s v n)
  agree_set {r} {s} v j n h a =
      ⊎_elim
      (λ t. subst (λ (n : ℕ). Agree O (set r v j) (set s v n)) (h t)
      (record { as_long = length-set r v j ∙ a.as_long ∙ sym (length-set s v j); same = λ u e. set_alike r s v u j a.as_long (a.same u e) }))
      (λ f. agree_trans (agree_hidden r v j f) (agree_trans a (agree_sym (agree_hidden s v n f))))
      (cases_Bool (O.reads v))

  seen_more : (o : List Ticket) (c v : ℕ) → seen O (o ++ single c v) ≡ seen O o ++ cond (O.sees c) (single c v) []
  seen_more o c v = filter-append (λ t. O.sees t.channel) o (single c v)

  -- a ticket that the observer does not see is made
  pub seen_hidden : (o : List Ticket) (c v : ℕ) → O.sees c ≡ false → seen O (o ++ single c v) ≡ seen O o
  seen_hidden o c v h = seen_more o c v ∙ ap (λ b. seen O o ++ cond b (single c v) []) h ∙ append-nil (seen O o)

  -- a ticket is made, with the same value if the observer sees it
  pub seen_output : (o q : List Ticket) (c u v : ℕ) → (O.sees c ≡ true → u ≡ v) → seen O o ≡ seen O q → seen O (o ++ single c u) ≡ seen O (q ++ single c v)
  seen_output o q c u v h e =
      ⊎_elim
      (λ t. seen_more o c u ∙ ap₂ (λ l z. l ++ cond (O.sees c) (single c z) []) e (h t) ∙ sym (seen_more q c v))
      (λ f. seen_hidden o c u f ∙ e ∙ sym (seen_hidden q c v f))
      (cases_Bool (O.sees c))

  -- what was seen before a ticket is a beginning of all that is seen after it
  pub seen_begins : (o : List Ticket) (c v : ℕ) (z : List Ticket) → Beginning (seen O (o ++ single c v)) z → Beginning (seen O o) z
  seen_begins o c v z b =
      let one = cond (O.sees c) (single c v) [] in
      record {
        rest = one ++ b.rest;
        joined = sym (append_assoc (seen O o) one b.rest) ∙ ap (λ l. l ++ b.rest) (sym (seen_more o c v)) ∙ b.joined;
      }
