-- Rows that are taken are the flat form of a program. Assumes nothing.
use Rattle.std.proofs.Common.{◌≡◌, ℕ, zero, suc, ◌+◌, ◌-◌, ◌≤◌, true, false, cond, eqb, leb, List, [], ◌∷◌, ◌++◌, map, length, take, drop, Some, None, Ok, Err, Option, Result, sym, refl, ap, ◌∙◌, subst, ⊎_elim, append_assoc, append-nil, arith, length-append, length-drop}
use Rattle.std.proofs.lemmas.Bool.{eqb-true, eqb-false, leb-true}
use Rattle.std.proofs.lemmas.List.{length-take-le, map_push, nil_from_length}
use Rattle.std.specs.List.{AllByRecursion}
use Rattle.language.specs.Block.{Tree}
use Rattle.fault.specs.declared.Fault.{Fault}
use Rattle.text.specs.Building.{Built}
use Rattle.program.specs.declared.rows.Kind.{Kind}
use Rattle.program.specs.declared.rows.Kind.TheVariants.{Skip, Handler, Assign, Output, If, While, Else, Close}
use Rattle.program.specs.declared.rows.Row.{Row}
use Rattle.program.specs.declared.rows.Term.{Term}
use Rattle.program.specs.declared.rows.Term.TheVariants.{Input, Constant, Variable, Operator}
use Rattle.program.specs.Terms.{arity_of, Whole, FitTerm, Expression}
use Rattle.program.specs.Lines.{Line, FitKind, FitLine}
use Rattle.program.specs.Building.{Tables, start, build, line_from, lines_from, linked_at}
use Rattle.program.specs.Trees.{program_of}
use Rattle.program.specs.Writing.{flat_rows, flat_terms, Within}
use Rattle.program.proofs.Cases.{split, both_true, same_some}
use Rattle.program.proofs.Programs.{built_is_flat}
use Rattle.program.proofs.Tables.{build_ok, nested_same, Same, terms_after}
use Rattle.flat_form.specs.Fitting.{fits_term, makes, expressed, fits_kind}
use Rattle.flat_form.specs.Rebuilding.{fitted, after, again, same_partners, ends_in, used_by}
use Rattle.flat_form.proofs.Again.{fitted_says, take_on, made, plain}

fit_back : (t : Term) → fits_term t ≡ true → FitTerm t
fit_back Input e = tt
fit_back (Constant n) e = let a = leb-true n 4294967295 e in omega arith
fit_back (Variable n) e = let a = leb-true n 15 e in omega arith
fit_back (Operator o) e = tt

makes_back : (l : ℕ) (ts : List Term) → makes l ts ≡ true → Whole l ts × AllByRecursion FitTerm ts
makes_back l [] e = (eqb-true l 0 e, tt)
makes_back l (t ∷ ts) e =
    split (eqb l 0) false (cond (fits_term t) (makes (l - 1 + arity_of t) ts) false) true e (λ _ h. cc) (λ q h.
    let a = both_true (fits_term t) (makes (l - 1 + arity_of t) ts) h in
    let b = makes_back (l - 1 + arity_of t) ts a.1 in
    let ne = eqb-false l 0 q in
    ((omega arith, b.0), (fit_back t a.0, b.1)))

expr_back : (ts : List Term) → expressed ts ≡ true → Expression ts
expr_back ts e =
    let a = both_true (leb (length ts) 15) (makes 1 ts) e in
    let b = makes_back 1 ts a.1 in
    (b.0, leb-true (length ts) 15 a.0, b.1)

nil_back : (ts : List Term) → eqb (length ts) 0 ≡ true → ts ≡ []
nil_back ts e = nil_from_length ts (eqb-true (length ts) 0 e)

row_back : (k : Kind) (ts : List Term) → fits_kind k ts ≡ true → FitKind k ts
row_back Skip ts e = nil_back ts e
row_back (Handler c) ts e = let a = both_true (leb c 15) _ e in (leb-true c 15 a.0, nil_back ts a.1)
row_back (Assign v) ts e = let a = both_true (leb v 15) _ e in (leb-true v 15 a.0, expr_back ts a.1)
row_back (Output c) ts e = let a = both_true (leb 16 c) _ e in let b = both_true (leb c 31) _ a.1 in (leb-true 16 c a.0, leb-true c 31 b.0, expr_back ts b.1)
row_back If ts e = expr_back ts e
row_back While ts e = expr_back ts e
row_back Else ts e = nil_back ts e
row_back Close ts e = nil_back ts e

after_some : (x : Result Tables Fault) (k : Tables → Option Tables) (t : Tables) → after x k ≡ Some t → (u : Tables) × (x ≡ Ok u) × (k u ≡ Some t)
after_some (Ok u) k t e = (u, refl, e)
after_some (Err f) k t e = cc

again_step : (terms : List Term) (s : Tables) (n : ℕ) (r : Row) (rs : List Row) (t : Tables) → again terms s n (r ∷ rs) ≡ Some t → (fitted terms (length s.terms) r ≡ true) × ((u : Tables) × (build s (n + 1) (line_from terms r) ≡ Ok u) × (again terms u (n + 1) rs ≡ Some t))
again_step terms s n r rs t e =
    split (fitted terms (length s.terms) r) (after (build s (n + 1) (line_from terms r)) (λ u. again terms u (n + 1) rs)) None (Some t) e
    (λ q h. (q, after_some (build s (n + 1) (line_from terms r)) (λ u. again terms u (n + 1) rs) t h)) (λ _ h. cc)

built : (terms : List Term) (s : Tables) (n : ℕ) (rs : List Row) (t : Tables) → again terms s n rs ≡ Some t → AllByRecursion FitLine (lines_from rs terms) × Built build s n (lines_from rs terms) t
built terms s n [] t e = (tt, same_some e)
built terms s n (r ∷ rs) t e =
    let a = again_step terms s n r rs t e in
    let f = fitted_says terms (length s.terms) r a.0 in
    let b = built terms a.1.0 (n + 1) rs t a.1.2 in
    ((row_back r.kind _ f.2, b.0), (a.1.0, a.1.1, b.1))

first_terms : (terms : List Term) (s : Tables) (n : ℕ) (rs : List Row) (t : Tables) → length s.terms ≤ length terms → s.terms ≡ take (length s.terms) terms → again terms s n rs ≡ Some t → t.terms ≡ take (length t.terms) terms
first_terms terms s n [] t le q e = subst (λ (x : Tables). x.terms ≡ take (length x.terms) terms) (same_some e) q
first_terms terms s n (r ∷ rs) t le q e =
    let a = again_step terms s n r rs t e in
    let f = fitted_says terms (length s.terms) r a.0 in
    let u = a.1.0 in
    let w : u.terms ≡ take (length s.terms + r.count) terms =
    terms_after s (n + 1) (line_from terms r) u a.1.1
    ∙ ap (λ x. x ++ take r.count (drop r.first terms)) q
    ∙ ap (λ i. take (length s.terms) terms ++ take r.count (drop i terms)) f.0
    ∙ take_on terms (length s.terms) r.count in
    let f0 = f.0 in
    let f1 = f.1 in
    let fit : length s.terms + r.count ≤ length terms = omega arith in
    let long : length u.terms ≡ length s.terms + r.count = ap length w ∙ length-take-le (length s.terms + r.count) terms fit in
    first_terms terms u (n + 1) rs t (omega arith) (w ∙ ap (λ k. take k terms) (sym long)) a.1.2

few_terms : (terms : List Term) (s : Tables) (n : ℕ) (rs : List Row) (t : Tables) → length s.terms ≤ length terms → again terms s n rs ≡ Some t → length t.terms ≤ length terms
few_terms terms s n [] t le e = subst (λ (x : Tables). length x.terms ≤ length terms) (same_some e) le
few_terms terms s n (r ∷ rs) t le e =
    let a = again_step terms s n r rs t e in
    let f = fitted_says terms (length s.terms) r a.0 in
    let f0 = f.0 in
    let f1 = f.1 in
    let u = a.1.0 in
    let part = length-take-le r.count (drop r.first terms) (simp length-drop (omega arith)) in
    let long = ap length (terms_after s (n + 1) (line_from terms r) u a.1.1) ∙ length-append s.terms (take r.count (drop r.first terms)) in
    few_terms terms u (n + 1) rs t (omega arith) a.1.2

plain_joined : (rows : List Row) (o j : ℕ) → map plain (linked_at rows o j) ≡ map plain rows
plain_joined [] o j = refl
plain_joined (r ∷ rs) zero j = refl
plain_joined (r ∷ rs) (suc o) j = ap (λ x. plain r ∷ x) (plain_joined rs o j)

plain_same : (rows after : List Row) → Same rows after → map plain after ≡ map plain rows
plain_same rows after s = ⊎_elim (λ e. ap (map plain) e) (λ h. ap (map plain) h.2 ∙ plain_joined rows h.0 h.1) s

pub plain_built : (s : Tables) (n : ℕ) (l : Line) (u : Tables) → build s n l ≡ Ok u → map plain u.rows ≡ map plain s.rows ++ made l.0 (length s.terms) (length l.1) ∷ []
plain_built s n l u e =
    let b = build_ok s n l u e in
    ap (λ (x : Tables). map plain x.rows) (sym b.2)
    ∙ map_push plain b.0.0 (made l.0 (length s.terms) (length l.1))
    ∙ ap (λ x. x ++ made l.0 (length s.terms) (length l.1) ∷ []) (plain_same s.rows b.0.0 (nested_same s.rows s.stack (length s.rows) l.0 b.0 b.1))

plain_again : (terms : List Term) (s : Tables) (n : ℕ) (rs : List Row) (t : Tables) → again terms s n rs ≡ Some t → map plain t.rows ≡ map plain s.rows ++ map plain rs
plain_again terms s n [] t e = ap (λ (x : Tables). map plain x.rows) (sym (same_some e)) ∙ sym (append-nil (map plain s.rows))
plain_again terms s n (r ∷ rs) t e =
    let a = again_step terms s n r rs t e in
    let f = fitted_says terms (length s.terms) r a.0 in
    let f1 = f.1 in
    let part : length (take r.count (drop r.first terms)) ≡ r.count = length-take-le r.count (drop r.first terms) (simp length-drop (omega arith)) in
    plain_again terms a.1.0 (n + 1) rs t a.1.2
    ∙ ap (λ x. x ++ map plain rs)
    (
    plain_built s (n + 1) (line_from terms r) a.1.0 a.1.1
    ∙ ap (λ i. map plain s.rows ++ made r.kind i (length (take r.count (drop r.first terms))) ∷ []) (sym f.0)
    ∙ ap (λ i. map plain s.rows ++ made r.kind r.first i ∷ []) part
    )
    ∙ append_assoc (map plain s.rows) (plain r ∷ []) (map plain rs)

one_row : (r q : Row) → plain r ≡ plain q → r.partner ≡ q.partner → r ≡ q
one_row r q e p = ap (λ (x : Row). record { kind = x.kind; first = x.first; count = x.count; partner = r.partner }) e ∙ ap (λ n. record { kind = q.kind; first = q.first; count = q.count; partner = n }) p

pub head_is : (x y : Row) (xs ys : List Row) → x ∷ xs ≡ y ∷ ys → x ≡ y
head_is x y xs ys e = cc

pub tail_is : (x y : Row) (xs ys : List Row) → x ∷ xs ≡ y ∷ ys → xs ≡ ys
tail_is x y xs ys e = cc

rows_are : (rs qs : List Row) → map plain rs ≡ map plain qs → same_partners rs qs ≡ true → rs ≡ qs
rows_are [] [] e p = refl
rows_are [] (q ∷ qs) e p = cc
rows_are (r ∷ rs) [] e p = cc
rows_are (r ∷ rs) (q ∷ qs) e p =
    let a = both_true (eqb r.partner q.partner) (same_partners rs qs) p in
    ap (λ x. x ∷ rs) (one_row r q (head_is (plain r) (plain q) (map plain rs) (map plain qs) e) (eqb-true _ _ a.0))
    ∙ ap (λ l. q ∷ l) (rows_are rs qs (tail_is (plain r) (plain q) (map plain rs) (map plain qs) e) a.1)

ends_back : (rows : List Row) (o : Option Tables) (m : ℕ) → ends_in rows o ≡ Some m → (t : Tables) × (o ≡ Some t) × (t.stack ≡ []) × (same_partners rows t.rows ≡ true) × (length t.terms ≡ m)
ends_back rows None m e = cc
ends_back rows (Some t) m e =
    split (eqb (length t.stack) 0) (cond (same_partners rows t.rows) (Some (length t.terms)) None) None (Some m) e
    (λ q h. split (same_partners rows t.rows) (Some (length t.terms)) None (Some m) h (λ p g. (t, refl, nil_from_length t.stack (eqb-true _ _ q), p, same_some g)) (λ _ g. cc))
    (λ _ h. cc)

pub taken_is_flat : (rows : List Row) (terms : List Term) (m : ℕ) → used_by rows terms ≡ Some m → (p : Tree) × Within p × (rows ≡ flat_rows p) × (take m terms ≡ flat_terms p) × (m ≤ length terms)
taken_is_flat rows terms m e =
    let x = ends_back rows (again terms start 0 rows) m e in
    let t = x.0 in
    let b = built terms start 0 rows t x.1 in
    let w = first_terms terms start 0 rows t (omega arith) refl x.1 in
    let same = rows_are rows t.rows (sym (plain_again terms start 0 rows t x.1)) x.3 in
    let f = built_is_flat (lines_from rows terms) t b.0 x.2 b.1 in
    let q : take m terms ≡ t.terms = sym (w ∙ ap (λ n. take n terms) x.4) in
    let le = few_terms terms start 0 rows t (omega arith) x.1 in
    let z = x.4 in (
      program_of (lines_from rows terms),
      f.1,
      same ∙ ap (λ (y : Tables). y.rows) f.2,
      q ∙ ap (λ (y : Tables). y.terms) f.2,
      omega arith,
    )
