-- The lines that tables stand for are those that they were built of. Assumes nothing.
use Rattle.std.proofs.Common.{◌≡◌, ℕ, zero, suc, ◌+◌, ◌≤◌, true, false, cond, leb, ◌⊎◌, List, [], ◌∷◌, ◌++◌, length, get_or, take, drop, Some, None, Ok, Err, Option, sym, refl, ap, ◌∙◌, subst, inl, inr, ⊎_elim, append_assoc, append-nil, arith, length-append, length-drop, length-set}
use Rattle.std.proofs.lemmas.List.{take-append-le, drop-append-le, drop_at, take_all, map_push, length_push}
use Rattle.std.specs.List.{AllByRecursion}
use Rattle.fault.proofs.Then.{then_ok, same_ok, cond_ok}
use Rattle.text.specs.Building.{Built}
use Rattle.text.specs.Places.{nest_at, twice_at, full_at}
use Rattle.text.specs.Reading.{or_refused}
use Rattle.program.specs.declared.rows.Kind.{Kind}
use Rattle.program.specs.declared.rows.Kind.TheVariants.{Skip, Handler, Assign, Output, If, While, Else, Close}
use Rattle.program.specs.declared.rows.Row.{Row}
use Rattle.program.specs.declared.rows.Term.{Term}
use Rattle.program.specs.Lines.{Line}
use Rattle.program.specs.Building.{blank_row, Tables, start, linked_at, is_if, inside, opens, turns, closes, begins, nested, is_twice, has_room, added, build, line_from, lines_from}
use Rattle.program.proofs.Cases.{split}

-- the terms of each row stand among the first m
abbrev pub Within : ℕ → List Row → Type 0
Within m rows = AllByRecursion (λ r. r.first + r.count ≤ m) rows

pub part_kept : (f c : ℕ) (terms ts : List Term) → f + c ≤ length terms → take c (drop f (terms ++ ts)) ≡ take c (drop f terms)
part_kept f c terms ts h =
    ap (take c) (drop-append-le f terms ts (omega arith))
    ∙ take-append-le c (drop f terms) ts (simp length-drop (omega arith))

pub lines_kept : (rows : List Row) (terms ts : List Term) → Within (length terms) rows → lines_from rows (terms ++ ts) ≡ lines_from rows terms
lines_kept [] terms ts h = refl
lines_kept (r ∷ rs) terms ts h =
    ap (λ x. (r.kind, x) ∷ lines_from rs (terms ++ ts)) (part_kept r.first r.count terms ts h.0)
    ∙ ap (λ x. line_from terms r ∷ x) (lines_kept rs terms ts h.1)

pub lines_joined : (rows : List Row) (terms : List Term) (o j : ℕ) → lines_from (linked_at rows o j) terms ≡ lines_from rows terms
lines_joined [] terms o j = refl
lines_joined (r ∷ rs) terms zero j = refl
lines_joined (r ∷ rs) terms (suc o) j = ap (λ x. line_from terms r ∷ x) (lines_joined rs terms o j)

within_joined : (m : ℕ) (rows : List Row) (o j : ℕ) → Within m rows → Within m (linked_at rows o j)
within_joined m [] o j h = tt
within_joined m (r ∷ rs) zero j h = h
within_joined m (r ∷ rs) (suc o) j h = (h.0, within_joined m rs o j h.1)

within_more : (m k : ℕ) (rows : List Row) → m ≤ k → Within m rows → Within k rows
within_more m k [] le h = tt
within_more m k (r ∷ rs) le h = (let a = h.0 in omega arith, within_more m k rs le h.1)

within_push : (m : ℕ) (rows : List Row) (r : Row) → Within m rows → r.first + r.count ≤ m → Within m (rows ++ r ∷ [])
within_push m [] r h e = (e, tt)
within_push m (q ∷ rs) r h e = (h.0, within_push m rs r h.1 e)

-- the rows after a partner was written
abbrev pub Same : List Row → List Row → Type 0
Same rows after = (after ≡ rows) ⊎ ((o : ℕ) × (j : ℕ) × (after ≡ linked_at rows o j))

abbrev pub Pair : Type 0
Pair = List Row × List ℕ

pub first_is : (x y : Pair) → Some x ≡ Some y → x.0 ≡ y.0
first_is x y e = let q : x ≡ y = cc in ap (λ (p : Pair). p.0) q

inside_same : (rows : List Row) (st : List ℕ) (p : Pair) → inside rows st ≡ Some p → Same rows p.0
inside_same rows [] p e = cc
inside_same rows (o ∷ os) p e = inl (sym (first_is (rows, o ∷ os) p e))

opens_same : (rows : List Row) (st : List ℕ) (j : ℕ) (p : Pair) → opens rows st j ≡ Some p → Same rows p.0
opens_same rows [] j p e = cc
opens_same rows (o ∷ os) j p e = split (leb 9 (length (o ∷ os))) None (Some (rows, j ∷ o ∷ os)) (Some p) e (λ _ h. cc) (λ _ h. inl (sym (first_is (rows, j ∷ o ∷ os) p h)))

turns_same : (rows : List Row) (st : List ℕ) (j : ℕ) (p : Pair) → turns rows st j ≡ Some p → Same rows p.0
turns_same rows [] j p e = cc
turns_same rows (o ∷ os) j p e = split (is_if (get_or rows o blank_row).kind) (Some (linked_at rows o j, j ∷ os)) None (Some p) e (λ _ h. inr (o, j, sym (first_is (linked_at rows o j, j ∷ os) p h))) (λ _ h. cc)

closes_same : (rows : List Row) (st : List ℕ) (j : ℕ) (p : Pair) → closes rows st j ≡ Some p → Same rows p.0
closes_same rows [] j p e = cc
closes_same rows (o ∷ os) j p e = inr (o, j, sym (first_is (linked_at rows o j, os) p e))

begins_same : (rows : List Row) (st : List ℕ) (j : ℕ) (p : Pair) → begins rows st j ≡ Some p → Same rows p.0
begins_same rows [] j p e = inl (sym (first_is (rows, j ∷ []) p e))
begins_same rows (o ∷ os) j p e = cc

pub nested_same : (rows : List Row) (st : List ℕ) (j : ℕ) (k : Kind) (p : Pair) → nested rows st j k ≡ Some p → Same rows p.0
nested_same rows st j Skip p e = inside_same rows st p e
nested_same rows st j (Handler c) p e = begins_same rows st j p e
nested_same rows st j (Assign v) p e = inside_same rows st p e
nested_same rows st j (Output c) p e = inside_same rows st p e
nested_same rows st j If p e = opens_same rows st j p e
nested_same rows st j While p e = opens_same rows st j p e
nested_same rows st j Else p e = turns_same rows st j p e
nested_same rows st j Close p e = closes_same rows st j p e

pub same_lines : (rows after : List Row) (terms : List Term) → Same rows after → lines_from after terms ≡ lines_from rows terms
same_lines rows after terms s =
    ⊎_elim (λ e. ap (λ x. lines_from x terms) e) (λ h. ap (λ x. lines_from x terms) h.2 ∙ lines_joined rows terms h.0 h.1) s

same_within : (m : ℕ) (rows after : List Row) → Same rows after → Within m rows → Within m after
same_within m rows after s h =
    ⊎_elim (λ e. subst (λ (x : List Row). Within m x) (sym e) h) (λ q. subst (λ (x : List Row). Within m x) (sym q.2) (within_joined m rows q.0 q.1 h)) s

-- what is kept from line to line
pub record Kept (s : Tables) (done : List Line) : Type 0 where
  pub within : Within (length s.terms) s.rows
  pub lines : lines_from s.rows s.terms ≡ done

pub or_nest : (n : ℕ) (o : Option Pair) (p : Pair) → or_refused (nest_at n) o ≡ Ok p → o ≡ Some p
or_nest n None p e = cc
or_nest n (Some q) p e = cc

-- what a line that was put says of the tests
pub build_ok : (s : Tables) (n : ℕ) (l : Line) (t : Tables) → build s n l ≡ Ok t
    → (p : Pair) × (nested s.rows s.stack (length s.rows) l.0 ≡ Some p) × (added s l p ≡ t) × (is_twice l.0 s.rows ≡ false) × (has_room s l.1 ≡ true)
build_ok s n l t e =
    let x = then_ok (or_refused (nest_at n) (nested s.rows s.stack (length s.rows) l.0)) (λ p. cond (is_twice l.0 s.rows) (Err (twice_at n)) (cond (has_room s l.1) (Ok (added s l p)) (Err (full_at n)))) t e in
    let p = x.0 in
    split (is_twice l.0 s.rows) (Err (twice_at n)) (cond (has_room s l.1) (Ok (added s l p)) (Err (full_at n))) (Ok t) x.2
    (λ _ h. cc)
    (λ w h. let r = cond_ok (has_room s l.1) (Ok (added s l p)) (full_at n) t h in (p, or_nest n _ p x.1, same_ok (added s l p) t r.1, w, r.0))

added_kept : (s : Tables) (done : List Line) (l : Line) (p : Pair) → Kept s done → Same s.rows p.0 → Kept (added s l p) (done ++ l ∷ [])
added_kept s done l p k same =
    let r : Row = record { kind = l.0; first = length s.terms; count = length l.1; partner = 0 } in
    let long = length-append s.terms l.1 in
    let w = same_within (length s.terms) s.rows p.0 same k.within in
    let whole : take (length l.1) (drop (length s.terms) (s.terms ++ l.1)) ≡ l.1 = ap (take (length l.1)) (drop_at s.terms l.1 (length s.terms) refl) ∙ take_all (length l.1) l.1 (omega arith) in
    record {
      within = within_push (length (s.terms ++ l.1)) p.0 r (within_more (length s.terms) (length (s.terms ++ l.1)) p.0 (omega arith) w) (omega arith);
      lines =
          map_push (line_from (s.terms ++ l.1)) p.0 r
          ∙ ap (λ x. x ++ line_from (s.terms ++ l.1) r ∷ []) (lines_kept p.0 s.terms l.1 w ∙ same_lines s.rows p.0 s.terms same ∙ k.lines)
          ∙ ap (λ x. done ++ (l.0, x) ∷ []) whole;
    }

pub built_kept : (s : Tables) (n : ℕ) (done ls : List Line) (t : Tables) → Kept s done → Built build s n ls t → Kept t (done ++ ls)
built_kept s n done [] t k e = subst (λ (x : Tables). Kept x (done ++ [])) e (subst (λ (d : List Line). Kept s d) (sym (append-nil done)) k)
built_kept s n done (l ∷ ls) t k e =
    let b = build_ok s (n + 1) l e.0 e.1 in
    let same = nested_same s.rows s.stack (length s.rows) l.0 b.0 b.1 in
    let here : Kept e.0 (done ++ l ∷ []) = subst (λ (x : Tables). Kept x (done ++ l ∷ [])) b.2 (added_kept s done l b.0 k same) in
    subst (λ (d : List Line). Kept t d) (append_assoc done (l ∷ []) ls) (built_kept e.0 (n + 1) (done ++ l ∷ []) ls t here e.2)

-- tables that are built of lines stand for them
pub tables_tell_their_lines : (ls : List Line) (t : Tables) → Built build start 0 ls t → ls ≡ lines_from t.rows t.terms
tables_tell_their_lines ls t h = sym (built_kept start 0 [] ls t (record { within = tt; lines = refl }) h).lines

pub terms_after : (s : Tables) (n : ℕ) (l : Line) (t : Tables) → build s n l ≡ Ok t → t.terms ≡ s.terms ++ l.1
terms_after s n l t e = let b = build_ok s n l t e in ap (λ (x : Tables). x.terms) (sym b.2)

-- a partner that is written keeps the count of rows
same_length : (rows after : List Row) → Same rows after → length after ≡ length rows
same_length rows after s = ⊎_elim (λ e. ap length e) (λ h. ap length h.2 ∙ length-set rows h.0 _) s

pub length_after : (s : Tables) (n : ℕ) (l : Line) (t : Tables) → build s n l ≡ Ok t → length t.rows ≡ length s.rows + 1
length_after s n l t e =
    let b = build_ok s n l t e in
    ap (λ (x : Tables). length x.rows) (sym b.2)
    ∙ length_push b.0.0 _
    ∙ ap (λ k. k + 1) (same_length s.rows b.0.0 (nested_same s.rows s.stack (length s.rows) l.0 b.0 b.1))
