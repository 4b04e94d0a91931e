-- The loops that build rows again, and compare their partners. Assumes nothing.
use Rattle.std.proofs.Common.{◌≡◌, ℕ, zero, suc, ◌+◌, ◌<◌, ◌≤◌, Bool, true, false, cond, eqb, leb, List, [], ◌∷◌, ◌++◌, length, get_or, take, drop, Some, None, Ok, Err, Option, Result, sym, refl, ap, ◌∙◌, arith, length-drop}
use Rattle.std.proofs.lemmas.Bool.{eq-eqb, ne_eqb, eqb-true, leb-true}
use Rattle.std.proofs.lemmas.List.{drop_more, drop_all, length-take-le}
use Rattle.fault.specs.declared.Fault.{Fault}
use Rattle.program.specs.declared.rows.Kind.{Kind}
use Rattle.program.specs.declared.rows.Row.{Row}
use Rattle.program.specs.declared.rows.Term.{Term}
use Rattle.program.specs.Building.{Tables, tables, start, build, line_from, blank_row}
use Rattle.program.specs.Nesting.{Adds, Builds}
use Rattle.program.specs.Open.{Open}
use Rattle.program.proofs.Cases.{both_true, neither}
use Rattle.program.proofs.Putting.{added_ok, added_err}
use Rattle.program.proofs.Tables.{terms_after}
use Rattle.flat_form.specs.Fitting.{fits_kind}
use Rattle.flat_form.specs.Rebuilding.{fitted, after, again, same_partners, ends_in, used_by}

-- the partners agree, row by row, or those of one row differ
partners_agree : (rows own : List Row) → length rows ≤ length own → ((k : ℕ) → k < length rows → (get_or rows k blank_row).partner ≡ (get_or own k blank_row).partner) → same_partners rows own ≡ true
partners_agree [] own le h = refl
partners_agree (r ∷ rs) [] le h = absurd (omega arith)
partners_agree (r ∷ rs) (q ∷ qs) le h = ap (λ b. cond b (same_partners rs qs) false) (eq-eqb _ _ (h 0 (omega arith))) ∙ partners_agree rs qs (omega arith) (λ k lt. h (suc k) (omega arith))

partners_differ : (rows own : List Row) (k : ℕ) → k < length rows → length rows ≤ length own → ((get_or rows k blank_row).partner ≡ (get_or own k blank_row).partner → ⊥) → same_partners rows own ≡ false
partners_differ [] own k lt le ne = absurd (omega arith)
partners_differ (r ∷ rs) [] k lt le ne = absurd (omega arith)
partners_differ (r ∷ rs) (q ∷ qs) zero lt le ne = ap (λ b. cond b (same_partners rs qs) false) (ne_eqb _ _ ne)
partners_differ (r ∷ rs) (q ∷ qs) (suc k) lt le ne = ap (λ b. cond (eqb r.partner q.partner) b false) (partners_differ rs qs k (omega arith) (omega arith) ne) ∙ neither (eqb r.partner q.partner)

pub partners_are_compared : (b : Bool) (rows own : List Row) → length rows ≤ length own
    → (b ≡ true → (k : ℕ) → k < length rows → (get_or rows k blank_row).partner ≡ (get_or own k blank_row).partner)
    → (b ≡ false → (k : ℕ) × (k < length rows) × ((get_or rows k blank_row).partner ≡ (get_or own k blank_row).partner → ⊥))
    → b ≡ same_partners rows own
partners_are_compared true rows own le f g = sym (partners_agree rows own le (f refl))
partners_are_compared false rows own le f g = let w = g refl in sym (partners_differ rows own w.0 w.1 le w.2)

-- j rows are built again with `used` terms, and what is left gives the result
pub record RebuiltSoFar (rows : List Row) (terms : List Term) (own : List Row) (nesting : Open) (used j : ℕ) : Type 0 where
  pub few : length rows ≤ 128
  pub long : length own ≡ 128
  pub counted : nesting.count ≡ j
  pub within : used ≤ length terms
  pub same : again terms start 0 rows ≡ again terms (tables (take nesting.count own) (take used terms) nesting.stack) j (drop j rows)

pub fitted_says : (terms : List Term) (used : ℕ) (r : Row) → fitted terms used r ≡ true → (r.first ≡ used) × (r.first + r.count ≤ length terms) × (fits_kind r.kind (take r.count (drop r.first terms)) ≡ true)
fitted_says terms used r e =
    let a = both_true (eqb r.first used) _ e in
    let b = both_true (leb (r.first + r.count) (length terms)) _ a.1 in
    (eqb-true _ _ a.0, leb-true _ _ b.0, b.1)

nothing : (m : ℕ) (xs : List Term) → xs ≡ [] → take m xs ≡ []
nothing zero xs e = refl
nothing (suc m) xs e = ap (take (suc m)) e

pub take_on : (xs : List Term) (n m : ℕ) → take n xs ++ take m (drop n xs) ≡ take (n + m) xs
take_on xs zero m = ap (λ k. take k xs) (let z : m ≡ 0 + m = omega arith in z)
take_on [] (suc n) m = nothing m [] refl ∙ sym (nothing (suc n + m) [] refl)
take_on (x ∷ xs) (suc n) m = ap (λ l. x ∷ l) (take_on xs n m) ∙ ap (λ k. take k (x ∷ xs)) (let z : suc (n + m) ≡ suc n + m = omega arith in z)

-- a row whose partner is not known yet
abbrev pub made : Kind → ℕ → ℕ → Row
made k f c = record { kind = k; first = f; count = c; partner = 0 }

abbrev pub plain : Row → Row
plain r = made r.kind r.first r.count

module _ {rows : List Row} {terms : List Term} {own : List Row} {nesting : Open} {used j : ℕ} (s : RebuiltSoFar rows terms own nesting used j) where
  abbrev now_is : Tables
  now_is = tables (take nesting.count own) (take used terms) nesting.stack

  module _ (h : j < length rows) where
    abbrev go_on : Tables → Option Tables
    go_on t = again terms t (j + 1) (drop (j + 1) rows)

    much : length (take used terms) ≡ used
    much = length-take-le used terms s.within

    here : again terms start 0 rows ≡ cond (fitted terms used (get_or rows j blank_row)) (after (build now_is (j + 1) (line_from terms (get_or rows j blank_row))) go_on) None
    here =
        s.same ∙ ap (again terms now_is j) (drop_more rows j blank_row h)
        ∙ ap (λ u. cond (fitted terms u (get_or rows j blank_row)) (after (build now_is (j + 1) (line_from terms (get_or rows j blank_row))) go_on) None) much

    pub unfit : fitted terms used (get_or rows j blank_row) ≡ false → None ≡ used_by rows terms
    unfit e = sym (ap (ends_in rows) (here ∙ ap (λ b. cond b (after (build now_is (j + 1) (line_from terms (get_or rows j blank_row))) go_on) None) e))

    module _ (e : fitted terms used (get_or rows j blank_row) ≡ true) where
      goes : again terms start 0 rows ≡ after (build now_is (j + 1) (line_from terms (get_or rows j blank_row))) go_on
      goes = here ∙ ap (λ b. cond b (after (build now_is (j + 1) (line_from terms (get_or rows j blank_row))) go_on) None) e

      part : length (line_from terms (get_or rows j blank_row)).1 ≡ (get_or rows j blank_row).count
      part = let a = (fitted_says terms used (get_or rows j blank_row) e).1 in length-take-le (get_or rows j blank_row).count (drop (get_or rows j blank_row).first terms) (simp length-drop (omega arith))

      adds : (r : Result (Unit {0}) Fault) (own' : List Row) (nesting' : Open) → Builds own nesting (j + 1) (plain (get_or rows j blank_row)) r own' nesting' → Adds (build now_is (j + 1) (line_from terms (get_or rows j blank_row))) r (take (nesting.count + 1) own') nesting'.stack
      adds r own' nesting' b = b (take used terms) (line_from terms (get_or rows j blank_row)).1 (much ∙ sym (fitted_says terms used (get_or rows j blank_row) e).0) part

      pub refused : (g : Fault) (own' : List Row) (nesting' : Open) → Builds own nesting (j + 1) (plain (get_or rows j blank_row)) (Err g) own' nesting' → None ≡ used_by rows terms
      refused g own' nesting' b = sym (ap (ends_in rows) (goes ∙ ap (λ y. after y go_on) (added_err _ g _ _ (adds (Err g) own' nesting' b))))

      pub one_more : (own' : List Row) (nesting' : Open) → length own' ≡ length own → nesting'.count ≡ nesting.count + 1 → Builds own nesting (j + 1) (plain (get_or rows j blank_row)) (Ok tt) own' nesting'
          → RebuiltSoFar rows terms own' nesting' (used + (get_or rows j blank_row).count) (j + 1)
      one_more own' nesting' le counted b =
          let says = fitted_says terms used (get_or rows j blank_row) e in
          let x = added_ok _ _ _ (adds (Ok tt) own' nesting' b) in
          let t = x.0 in
          let rs : t.rows ≡ take nesting'.count own' = sym x.2 ∙ ap (λ i. take i own') (sym counted) in
          let ts : t.terms ≡ take (used + (get_or rows j blank_row).count) terms =
          terms_after now_is (j + 1) (line_from terms (get_or rows j blank_row)) t x.1
          ∙ ap (λ f. take used terms ++ take (get_or rows j blank_row).count (drop f terms)) says.0
          ∙ take_on terms used (get_or rows j blank_row).count in
          let site : t ≡ tables (take nesting'.count own') (take (used + (get_or rows j blank_row).count) terms) nesting'.stack =
          ap (λ a. tables a t.terms t.stack) rs ∙ ap (λ a. tables (take nesting'.count own') a t.stack) ts ∙ ap (λ a. tables (take nesting'.count own') (take (used + (get_or rows j blank_row).count) terms) a) (sym x.3) in
          let a = says.0 in
          let c = says.1 in
          let i = s.counted in
          record {
            few = s.few;
            long = le ∙ s.long;
            counted = omega arith;
            within = omega arith;
            same = goes ∙ ap (λ y. after y go_on) x.1 ∙ ap go_on site;
          }

  module _ (h : length rows ≡ j) where
    ended : used_by rows terms ≡ ends_in rows (Some now_is)
    ended = ap (ends_in rows) (s.same ∙ ap (again terms now_is j) (drop_all j rows (omega arith)))

    by_tests : (a b : Bool) → eqb (length nesting.stack) 0 ≡ a → same_partners rows (take (length rows) own) ≡ b → used_by rows terms ≡ cond a (cond b (Some (length (take used terms))) None) None
    by_tests a b e f =
        ended
        ∙ ap (λ x. cond x (cond (same_partners rows (take nesting.count own)) (Some (length (take used terms))) None) None) e
        ∙ ap (λ x. cond a (cond x (Some (length (take used terms))) None) None) (ap (λ n. same_partners rows (take n own)) (s.counted ∙ sym h) ∙ f)

    pub finish : eqb (length nesting.stack) 0 ≡ true → same_partners rows (take (length rows) own) ≡ true → Some used ≡ used_by rows terms
    finish z p = sym (by_tests true true z p ∙ ap (λ n. Some n) (length-take-le used terms s.within))

    pub unpaired : eqb (length nesting.stack) 0 ≡ true → same_partners rows (take (length rows) own) ≡ false → None ≡ used_by rows terms
    unpaired z p = sym (by_tests true false z p)

    pub open_end : eqb (length nesting.stack) 0 ≡ false → None ≡ used_by rows terms
    open_end z = sym (by_tests false (same_partners rows (take (length rows) own)) z refl)
