-- A text is accepted exactly if it is lines that pass and that lead from one state to the next. Assumes nothing.
use Rattle.std.proofs.Common.{◌≡◌, ℕ, ◌+◌, Bool, true, false, cond, eqb, List, [], ◌∷◌, ◌++◌, length, Ok, Err, Result, refl, ap, ◌∙◌, subst, inl, inr, ⊎_elim, append_assoc, append-nil}
use Rattle.std.proofs.lemmas.List.{nil_from_length}
use Rattle.std.proofs.lemmas.Bool.{eqb-true}
use Rattle.std.specs.List.{AllByRecursion}
use Rattle.fault.specs.declared.Fault.{Fault}
use Rattle.text.specs.Pieces.{pieces, joined, first, others}
use Rattle.text.specs.Places.{ragged_at}
use Rattle.fault.specs.Faults.{then}
use Rattle.text.specs.Texts.{fed, Manner, strict, lax, passes, Step, on_line, on_rest, on_lines, TextOf, Leads}
use Rattle.text.proofs.Cutting.{Free, pieces_mark, pieces_rejoin}
use Rattle.fault.proofs.Then.{then_ok, ok_then, cond_ok}

text_cons : (m : Manner) (p text : List ℕ) (ps : List (List ℕ)) → TextOf m text ps → TextOf m (p ++ 10 ∷ text) (p ∷ ps)
text_cons strict p text ps e = ap (λ l. p ++ 10 ∷ l) e
text_cons lax p text ps e =
    ⊎_elim (λ a. inl (ap (λ l. p ++ 10 ∷ l) a)) (λ b. inr (append_assoc p (10 ∷ text) (10 ∷ []) ∙ ap (λ l. p ++ 10 ∷ l) b)) e

module _ {S : Type 0} (step : Step S) where
  empty_rest : (s t : S) (q : List ℕ) → eqb (length q) 0 ≡ true → ◌≡◌ {A = Result S Fault} (Ok s) (Ok t) → (q ≡ []) × (s ≡ t)
  empty_rest s t q z e = (nil_from_length q (eqb-true (length q) 0 z), cc)

  strict_rest : (s t : S) (n : ℕ) (q : List ℕ) (b : Bool) → eqb (length q) 0 ≡ b → cond b (Ok s) (Err (ragged_at n)) ≡ Ok t → (q ≡ []) × (s ≡ t)
  strict_rest s t n q true z e = empty_rest s t q z e
  strict_rest s t n q false z e = absurd cc

  lax_rest : (s t : S) (n : ℕ) (q : List ℕ) (b : Bool) → eqb (length q) 0 ≡ b → cond b (Ok s) (step s (n + 1) q) ≡ Ok t
      → (ps : List (List ℕ)) × TextOf lax (q ++ []) ps × Leads lax step s n ps t
  lax_rest s t n q true z e = let a = empty_rest s t q z e in ([], inl (append-nil q ∙ a.0), a.1)
  lax_rest s t n q false z e = (q ∷ [], inr (ap (λ l. l ++ 10 ∷ []) (append-nil q)), (t, refl, e, refl))

  rest_back : (m : Manner) (s t : S) (n : ℕ) (q : List ℕ) → on_rest m step s (n + 1) q ≡ Ok t → (ps : List (List ℕ)) × TextOf m (q ++ []) ps × Leads m step s n ps t
  rest_back strict s t n q e = let a = strict_rest s t (n + 1) q (eqb (length q) 0) refl e in ([], append-nil q ∙ a.0, a.1)
  rest_back lax s t n q e = lax_rest s t n q (eqb (length q) 0) refl e

  lines_back : (m : Manner) (s t : S) (n : ℕ) (q : List ℕ) (qs : List (List ℕ)) → on_lines m step s n (q ∷ qs) ≡ Ok t
      → (ps : List (List ℕ)) × TextOf m (joined 10 (q ∷ qs)) ps × Leads m step s n ps t
  lines_back m s t n q [] e = rest_back m s t n q e
  lines_back m s t n q (r ∷ rs) e =
      let a = then_ok (on_line m step s (n + 1) q) (λ u. on_lines m step u (n + 1) (r ∷ rs)) t e in
      let b = cond_ok (passes m q) (step s (n + 1) q) (ragged_at (n + 1)) a.0 a.1 in
      let h = lines_back m a.0 t (n + 1) r rs a.2 in
      (q ∷ h.0, text_cons m q (joined 10 (r ∷ rs)) h.0 h.1, (a.0, b.0, b.1, h.2))

  pub accepted_text_is_lines : (m : Manner) (s t : S) (text : List ℕ) → on_lines m step s 0 (pieces 10 text) ≡ Ok t → (ps : List (List ℕ)) × TextOf m text ps × Leads m step s 0 ps t
  accepted_text_is_lines m s t text e =
      let h = lines_back m s t 0 (first 10 text) (others 10 text) e in
      (h.0, subst (λ (x : List ℕ). TextOf m x h.0) (pieces_rejoin 10 text) h.1, h.2)

  no_rest : (m : Manner) (s : S) (n : ℕ) → on_rest m step s n [] ≡ Ok s
  no_rest strict s n = refl
  no_rest lax s n = refl

  pub lines_are_accepted : (m : Manner) (s t : S) (n : ℕ) (ps : List (List ℕ)) → AllByRecursion (Free 10) ps → Leads m step s n ps t → on_lines m step s n (pieces 10 (fed ps)) ≡ Ok t
  lines_are_accepted m s t n [] f e = no_rest m s (n + 1) ∙ ap (λ x. Ok x) e
  lines_are_accepted m s t n (p ∷ ps) f h =
      ap (on_lines m step s n) (pieces_mark 10 p (fed ps) f.0)
      ∙ ap (λ b. then (cond b (step s (n + 1) p) (Err (ragged_at (n + 1)))) (λ u. on_lines m step u (n + 1) (pieces 10 (fed ps)))) h.1
      ∙ ok_then (λ u. on_lines m step u (n + 1) (pieces 10 (fed ps))) (Ok t) h.2 (lines_are_accepted m h.0 t (n + 1) ps f.1 h.3)
