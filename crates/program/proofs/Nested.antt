-- Lines that are put one after the other, and leave nothing open, open and close blocks in order. Assumes nothing.
use Rattle.std.proofs.Common.{◌≡◌, ℕ, zero, suc, ◌<◌, ◌≤◌, Bool, true, false, leb, List, [], ◌∷◌, ◌++◌, length, get_or, Some, None, sym, refl, ap, ◌∙◌, subst, arith, length-set}
use Rattle.std.proofs.lemmas.List.{length_push, get_or_at, get_or_append_left}
use Rattle.std.proofs.lemmas.Bool.{leb-false}
use Rattle.std.specs.List.{AllByRecursion}
use Rattle.program.specs.declared.rows.Kind.{Kind}
use Rattle.program.specs.declared.rows.Kind.TheVariants as kind
use Rattle.program.specs.declared.rows.Row.{Row}
use Rattle.program.specs.Lines.{Line}
use Rattle.program.specs.Building.{blank_row, Tables, linked_at, is_if, inside, begins, opens, turns, closes, nested}
use Rattle.program.specs.Writing.{row}
use Rattle.program.proofs.Cases.{split, same_some}
use Rattle.program.proofs.Ordering.{Moves, Ordered}
use Rattle.program.proofs.Runs.{Runs}
use Rattle.program.proofs.Tables.{Pair, build_ok}

-- whether an Else may come, for each open row
abbrev marks : List Row → List ℕ → List Bool
marks rows [] = []
marks rows (o ∷ os) = is_if (get_or rows o blank_row).kind ∷ marks rows os

abbrev Under : ℕ → List ℕ → Type 0
Under n os = AllByRecursion (λ o. o < n) os

under_more : (n m : ℕ) (os : List ℕ) → n ≤ m → Under n os → Under m os
under_more n m [] le u = tt
under_more n m (o ∷ os) le u = (let a = u.0 in omega arith, under_more n m os le u.1)

length_marks : (rows : List Row) (os : List ℕ) → length (marks rows os) ≡ length os
length_marks rows [] = refl
length_marks rows (o ∷ os) = ap suc (length_marks rows os)

marks_more : (rows ys : List Row) (os : List ℕ) → Under (length rows) os → marks (rows ++ ys) os ≡ marks rows os
marks_more rows ys [] u = refl
marks_more rows ys (o ∷ os) u =
    ap (λ (r : Row). is_if r.kind ∷ marks (rows ++ ys) os) (get_or_append_left rows ys blank_row o u.0) ∙ ap (λ x. is_if (get_or rows o blank_row).kind ∷ x) (marks_more rows ys os u.1)

kind_linked : (rows : List Row) (o j i : ℕ) → (get_or (linked_at rows o j) i blank_row).kind ≡ (get_or rows i blank_row).kind
kind_linked [] o j i = refl
kind_linked (r ∷ rs) zero j zero = refl
kind_linked (r ∷ rs) zero j (suc i) = refl
kind_linked (r ∷ rs) (suc o) j zero = refl
kind_linked (r ∷ rs) (suc o) j (suc i) = kind_linked rs o j i

marks_linked : (rows : List Row) (o j : ℕ) (os : List ℕ) → marks (linked_at rows o j) os ≡ marks rows os
marks_linked rows o j [] = refl
marks_linked rows o j (i ∷ os) = ap (λ k. is_if k ∷ marks (linked_at rows o j) os) (kind_linked rows o j i) ∙ ap (λ x. is_if (get_or rows i blank_row).kind ∷ x) (marks_linked rows o j os)

-- row r behind others, among which partners were written
module _ (rows : List Row) (r : Row) (os : List ℕ) (u : Under (length rows) os) where
  behind : marks (rows ++ r ∷ []) os ≡ marks rows os
  behind = marks_more rows (r ∷ []) os u

  newest : is_if (get_or (rows ++ r ∷ []) (length rows) blank_row).kind ≡ is_if r.kind
  newest = ap (λ (x : Row). is_if x.kind) (get_or_at rows r [] blank_row (length rows) refl)

  under : Under (length (rows ++ r ∷ [])) os
  under = let l = length_push rows r in under_more (length rows) (length (rows ++ r ∷ [])) os (omega arith) u

  module _ (o j : ℕ) where
    linked_long : length (linked_at rows o j) ≡ length rows
    linked_long = length-set rows o _

    linked_behind : marks (linked_at rows o j ++ r ∷ []) os ≡ marks rows os
    linked_behind = marks_more (linked_at rows o j) (r ∷ []) os (under_more (length rows) _ os (let l = linked_long in omega arith) u) ∙ marks_linked rows o j os

    linked_newest : is_if (get_or (linked_at rows o j ++ r ∷ []) (length rows) blank_row).kind ≡ is_if r.kind
    linked_newest = ap (λ (x : Row). is_if x.kind) (get_or_at (linked_at rows o j) r [] blank_row (length rows) linked_long)

    linked_under : Under (length (linked_at rows o j ++ r ∷ [])) os
    linked_under = let l = length_push (linked_at rows o j) r in let m = linked_long in under_more (length rows) (length (linked_at rows o j ++ r ∷ [])) os (omega arith) u

abbrev Goes : Kind → List Row → List ℕ → Row → Pair → Type 0
Goes k rows os r p = Moves k (marks rows os) (marks (p.0 ++ r ∷ []) p.1) × Under (length (p.0 ++ r ∷ [])) p.1

goes : (k : Kind) (rows : List Row) (os : List ℕ) (r : Row) (x p : Pair) → Some x ≡ Some p → Goes k rows os r x → Goes k rows os r p
goes k rows os r x p e h = subst (λ (y : Pair). Goes k rows os r y) (same_some e) h

plain_goes : (rows : List Row) (os : List ℕ) (r : Row) (p : Pair) → inside rows os ≡ Some p → Under (length rows) os → (0 < length (marks rows os)) × (marks (p.0 ++ r ∷ []) p.1 ≡ marks rows os) × Under (length (p.0 ++ r ∷ [])) p.1
plain_goes rows [] r p e u = cc
plain_goes rows (o ∷ os) r p e u =
    subst (λ (y : Pair). (0 < length (marks rows (o ∷ os))) × (marks (y.0 ++ r ∷ []) y.1 ≡ marks rows (o ∷ os)) × Under (length (y.0 ++ r ∷ [])) y.1) (same_some e)
    (omega arith, behind rows r (o ∷ os) u, under rows r (o ∷ os) u)

open_goes : (rows : List Row) (os : List ℕ) (r : Row) (b : Bool) (p : Pair) → is_if r.kind ≡ b → opens rows os (length rows) ≡ Some p → Under (length rows) os → (0 < length (marks rows os)) × (length (marks rows os) ≤ 8) × (marks (p.0 ++ r ∷ []) p.1 ≡ b ∷ marks rows os) × Under (length (p.0 ++ r ∷ [])) p.1
open_goes rows [] r b p i e u = cc
open_goes rows (o ∷ os) r b p i e u =
    split (leb 9 (length (o ∷ os))) None (Some (rows, length rows ∷ o ∷ os)) (Some p) e
    (λ _ h. cc)
    (λ few h.
    let l = leb-false 9 (length (o ∷ os)) few in
    let n = length_marks rows (o ∷ os) in
    let m = length_push rows r in
    subst (λ (y : Pair). (0 < length (marks rows (o ∷ os))) × (length (marks rows (o ∷ os)) ≤ 8) × (marks (y.0 ++ r ∷ []) y.1 ≡ b ∷ marks rows (o ∷ os)) × Under (length (y.0 ++ r ∷ [])) y.1) (same_some h) (
      omega arith,
      omega arith,
      ap (λ x. x ∷ marks (rows ++ r ∷ []) (o ∷ os)) (newest rows r (o ∷ os) u ∙ i) ∙ ap (λ x. b ∷ x) (behind rows r (o ∷ os) u),
      (omega arith, under rows r (o ∷ os) u),
    ))

turn_goes : (rows : List Row) (os : List ℕ) (r : Row) (p : Pair) → is_if r.kind ≡ false → turns rows os (length rows) ≡ Some p → Under (length rows) os → Goes kind.Else rows os r p
turn_goes rows [] r p i e u = cc
turn_goes rows (o ∷ os) r p i e u =
    split (is_if (get_or rows o blank_row).kind) (Some (linked_at rows o (length rows), length rows ∷ os)) None (Some p) e
    (λ was h.
    let l = length_push (linked_at rows o (length rows)) r in
    let m = linked_long rows r os u.1 o (length rows) in
    goes kind.Else rows (o ∷ os) r (linked_at rows o (length rows), length rows ∷ os) p h (
      (
        marks rows os,
        ap (λ b. b ∷ marks rows os) was,
        ap (λ b. b ∷ marks (linked_at rows o (length rows) ++ r ∷ []) os) (linked_newest rows r os u.1 o (length rows) ∙ i) ∙ ap (λ x. false ∷ x) (linked_behind rows r os u.1 o (length rows)),
      ),
      (omega arith, linked_under rows r os u.1 o (length rows)),
    ))
    (λ _ h. cc)

close_goes : (rows : List Row) (os : List ℕ) (r : Row) (p : Pair) → closes rows os (length rows) ≡ Some p → Under (length rows) os → Goes kind.Close rows os r p
close_goes rows [] r p e u = cc
close_goes rows (o ∷ os) r p e u =
    goes kind.Close rows (o ∷ os) r (linked_at rows o (length rows), os) p e (
      (is_if (get_or rows o blank_row).kind, ap (λ x. is_if (get_or rows o blank_row).kind ∷ x) (sym (linked_behind rows r os u.1 o (length rows)))),
      linked_under rows r os u.1 o (length rows),
    )

begin_goes : (c : ℕ) (rows : List Row) (os : List ℕ) (r : Row) (p : Pair) → is_if r.kind ≡ false → begins rows os (length rows) ≡ Some p → Under (length rows) os → Goes (kind.Handler c) rows os r p
begin_goes c rows [] r p i e u =
    let m = length_push rows r in
    goes (kind.Handler c) rows [] r (rows, length rows ∷ []) p e ((refl, ap (λ b. b ∷ []) (newest rows r [] tt ∙ i)), (omega arith, tt))
begin_goes c rows (o ∷ os) r p i e u = cc

row_goes : (k : Kind) (f c : ℕ) (rows : List Row) (os : List ℕ) (p : Pair) → nested rows os (length rows) k ≡ Some p → Under (length rows) os → Goes k rows os (row k f c 0) p
row_goes kind.Skip f c rows os p e u = let x = plain_goes rows os (row kind.Skip f c 0) p e u in ((x.0, x.1), x.2)
row_goes (kind.Handler d) f c rows os p e u = begin_goes d rows os (row (kind.Handler d) f c 0) p refl e u
row_goes (kind.Assign v) f c rows os p e u = let x = plain_goes rows os (row (kind.Assign v) f c 0) p e u in ((x.0, x.1), x.2)
row_goes (kind.Output o) f c rows os p e u = let x = plain_goes rows os (row (kind.Output o) f c 0) p e u in ((x.0, x.1), x.2)
row_goes kind.If f c rows os p e u = let x = open_goes rows os (row kind.If f c 0) true p refl e u in ((x.0, x.1, x.2), x.3)
row_goes kind.While f c rows os p e u = let x = open_goes rows os (row kind.While f c 0) false p refl e u in ((x.0, x.1, x.2), x.3)
row_goes kind.Else f c rows os p e u = turn_goes rows os (row kind.Else f c 0) p refl e u
row_goes kind.Close f c rows os p e u = close_goes rows os (row kind.Close f c 0) p e u

runs_ordered : (s t : Tables) (ls : List Line) → Under (length s.rows) s.stack → t.stack ≡ [] → Runs s ls t → Ordered (marks s.rows s.stack) ls
runs_ordered s t [] u z h = ap (λ (x : Tables). marks x.rows x.stack) h ∙ ap (marks t.rows) z
runs_ordered s t (l ∷ ls) u z h =
    let b = build_ok s 0 l h.0 (h.1 0) in
    let g = row_goes l.0 (length s.terms) (length l.1) s.rows s.stack b.0 b.1 u in
    let g' : Moves l.0 (marks s.rows s.stack) (marks h.0.rows h.0.stack) × Under (length h.0.rows) h.0.stack =
    subst (λ (x : Tables). Moves l.0 (marks s.rows s.stack) (marks x.rows x.stack) × Under (length x.rows) x.stack) b.2 g in
    (marks h.0.rows h.0.stack, g'.0, runs_ordered h.0 t ls g'.1 z h.2)

pub runs_are_ordered : (s t : Tables) (ls : List Line) → s.stack ≡ [] → t.stack ≡ [] → Runs s ls t → Ordered [] ls
runs_are_ordered s t ls e z h =
    subst (λ (x : List Bool). Ordered x ls) (ap (marks s.rows) e) (runs_ordered s t ls (subst (λ (x : List ℕ). Under (length s.rows) x) (sym e) tt) z h)
