-- A text is accepted exactly if it is the writing of parts that build the state. Assumes nothing.
use Rattle.std.proofs.Common.{◌≡◌, ℕ, ◌+◌, ◌≤◌, true, leb, length, List, [], ◌∷◌, map, Ok, Result, sym, refl, ap, ◌∙◌, subst}
use Rattle.std.proofs.ByRecursion.{All-weaker, All-map}
use Rattle.std.proofs.lemmas.Bool.{cond-true, leb-true, le-leb}
use Rattle.std.specs.List.{AllByRecursion}
use Rattle.fault.specs.declared.Fault.{Fault}
use Rattle.fault.specs.declared.Reason.TheVariants as reason
use Rattle.fault.specs.Faults.{unplaced}
use Rattle.text.specs.Building.{two_steps, Built}
use Rattle.text.specs.Pieces.{pieces}
use Rattle.text.specs.Lines.{text_limit, is_clean}
use Rattle.text.specs.Texts.{fed, Manner, strict, passes, on_lines, read_text, TextOf, Leads}
use Rattle.text.proofs.Cutting.{Free}
use Rattle.text.proofs.Printing.{clean_is_free}
use Rattle.fault.proofs.Then.{then_ok, ok_then, cond_ok}
use Rattle.text.proofs.Texts.{accepted_text_is_lines, lines_are_accepted}

-- parse is the inverse of bytes at what fits
module _
    {S A : Type 0}
    (parse : ℕ → List ℕ → Result A Fault)
    (build : S → ℕ → A → Result S Fault)
    (bytes : A → List ℕ)
    (Fit : A → Type 0)
    (back : (n : ℕ) (p : List ℕ) (a : A) → parse n p ≡ Ok a → (p ≡ bytes a) × Fit a)
    (forth : (n : ℕ) (a : A) → Fit a → parse n (bytes a) ≡ Ok a)
  where
    leads_back : (m : Manner) (s t : S) (n : ℕ) (ps : List (List ℕ)) → Leads m (two_steps parse build) s n ps t
        → (xs : List A) × (ps ≡ map bytes xs) × AllByRecursion Fit xs × AllByRecursion (λ a. passes m (bytes a) ≡ true) xs × Built build s n xs t
    leads_back m s t n [] h = ([], refl, tt, tt, h)
    leads_back m s t n (p ∷ ps) h =
        let x = then_ok (parse (n + 1) p) (λ a. build s (n + 1) a) h.0 h.2 in
        let a = x.0 in
        let b = back (n + 1) p a x.1 in
        let r = leads_back m h.0 t (n + 1) ps h.3 in (
          a ∷ r.0,
          ap (λ q. q ∷ ps) b.0 ∙ ap (λ q. bytes a ∷ q) r.1,
          (b.1, r.2),
          (sym (ap (passes m) b.0) ∙ h.1, r.3),
          (h.0, x.2, r.4),
        )

    leads_forth : (m : Manner) (s t : S) (n : ℕ) (xs : List A) → AllByRecursion Fit xs → AllByRecursion (λ a. passes m (bytes a) ≡ true) xs → Built build s n xs t → Leads m (two_steps parse build) s n (map bytes xs) t
    leads_forth m s t n [] f c h = h
    leads_forth m s t n (a ∷ xs) f c h =
        (h.0, c.0, ok_then (λ x. build s (n + 1) x) (Ok h.0) (forth (n + 1) a f.0) h.1, leads_forth m h.0 t (n + 1) xs f.1 c.1 h.2)

    pub accepted_text_is_written : (m : Manner) (s t : S) (text : List ℕ) → on_lines m (two_steps parse build) s 0 (pieces 10 text) ≡ Ok t
        → (xs : List A) × TextOf m text (map bytes xs) × AllByRecursion Fit xs × AllByRecursion (λ a. passes m (bytes a) ≡ true) xs × Built build s 0 xs t
    accepted_text_is_written m s t text e =
        let x = accepted_text_is_lines (two_steps parse build) m s t text e in
        let r = leads_back m s t 0 x.0 x.2 in
        (r.0, subst (λ (ps : List (List ℕ)). TextOf m text ps) r.1 x.1, r.2, r.3, r.4)

    pub written_text_is_accepted : (m : Manner) (s t : S) (xs : List A) → AllByRecursion Fit xs → AllByRecursion (λ a. passes m (bytes a) ≡ true) xs → AllByRecursion (Free 10) (map bytes xs) → Built build s 0 xs t
        → on_lines m (two_steps parse build) s 0 (pieces 10 (fed (map bytes xs))) ≡ Ok t
    written_text_is_accepted m s t xs f c free h = lines_are_accepted (two_steps parse build) m s t 0 (map bytes xs) free (leads_forth m s t 0 xs f c h)

    -- the same of a text that keeps the limit
    pub text_read_is_written : (s t : S) (text : List ℕ) → read_text (two_steps parse build) s text ≡ Ok t
        → (xs : List A) × (text ≡ fed (map bytes xs)) × AllByRecursion Fit xs × Built build s 0 xs t × (length text ≤ text_limit)
    text_read_is_written s t text e =
        let c = cond_ok (leb (length text) 8192) _ (unplaced reason.Overlong) t e in
        let a = accepted_text_is_written strict s t text c.1 in
        (a.0, a.1, a.2, a.4, leb-true (length text) 8192 c.0)

    pub written_text_is_read : ((a : A) → Fit a → is_clean (bytes a) ≡ true) → (s t : S) (xs : List A) → AllByRecursion Fit xs → length (fed (map bytes xs)) ≤ text_limit → Built build s 0 xs t
        → read_text (two_steps parse build) s (fed (map bytes xs)) ≡ Ok t
    written_text_is_read clean s t xs f short h =
        let free = All-map (Free 10) bytes xs (All-weaker Fit _ (λ a g. clean_is_free (bytes a) (clean a g)) xs f) in
        cond-true (leb (length (fed (map bytes xs))) 8192) _ _ (le-leb (length (fed (map bytes xs))) 8192 short)
        ∙ written_text_is_accepted strict s t xs f (All-weaker Fit _ clean xs f) free h
