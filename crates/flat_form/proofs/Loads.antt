-- Tables are taken exactly if they hold the flat form of a program. Assumes nothing.
use Rattle.std.proofs.Common.{◌≡◌, ℕ, ◌+◌, ◌-◌, ◌≤◌, true, cond, leb, List, [], ◌∷◌, ◌++◌, length, take, drop, replicate, Some, None, Option, sym, refl, ap, ◌∙◌, subst, arith, length-append, length-drop}
use Rattle.std.proofs.lemmas.List.{length-take-le, take-append-drop, take_at, drop_at, length-map, take_all}
use Rattle.std.proofs.lemmas.Bool.{le-leb, eq-eqb, eqb-true}
use Rattle.language.specs.Block.{Tree}
use Rattle.program.specs.declared.rows.Kind.TheVariants as kind
use Rattle.program.specs.declared.rows.Row.{Row}
use Rattle.program.specs.declared.rows.Term.{Term}
use Rattle.program.specs.Building.{blank_row, blank_term, line_from}
use Rattle.program.specs.Laws.{Hold}
use Rattle.program.specs.Reading.{padded}
use Rattle.program.specs.Trees.{tree_of}
use Rattle.program.specs.Writing.{row, tree_rows, block_rows, width, flat_rows, flat_terms, Within}
use Rattle.program.proofs.Cases.{split}
use Rattle.program.proofs.Programs.{flat_form_tells_the_lines, flat_form_tells_the_program}
use Rattle.flat_form.specs.Extents.{extent, all_blank, with_blanks, extents, is_all, is_program}
use Rattle.flat_form.specs.Rebuilding.{used_by}
use Rattle.flat_form.proofs.Blanks.{blank_behind_extent, extent_padded, closed_extent, extent_before, all_blank_is, blanks_are_blank}
use Rattle.flat_form.proofs.Completeness.{flat_is_taken}
use Rattle.flat_form.proofs.Soundness.{taken_is_flat}

-- the last row of a program closes a handler
tree_extent : (j u : ℕ) (p : Tree) → extent (tree_rows j u p) ≡ length (tree_rows j u p)
tree_extent j u [] = refl
tree_extent j u (h ∷ hs) =
    let body = block_rows (j + 1) u h.body in
    let close = j + 1 + length body in
    let u₁ = u + width h.body in
    let ends = row kind.Close u₁ 0 0 in
    let e = closed_extent ends (tree_rows (close + 1) u₁ hs) refl (tree_extent (close + 1) u₁ hs) in
    extent_before (row (kind.Handler h.channel) u 0 close ∷ body) (ends ∷ tree_rows (close + 1) u₁ hs) (omega arith) e

-- what a machine may hold
pub record IsFlat (p : Tree) (rows : List Row) (terms : List Term) : Type 0 where
  pub within : Within p
  pub rows_are : rows ≡ flat_rows p
  pub terms_are : terms ≡ flat_terms p

all_is : (n : ℕ) (o : Option ℕ) → is_all n o ≡ true → o ≡ Some n
all_is n None e = cc
all_is n (Some m) e = ap (λ k. Some k) (eqb-true m n e)

-- tables that pass the test are the flat form of the program that they stand for
pub program_is_flat : (rows : List Row) (terms : List Term) → is_program rows terms ≡ true → IsFlat (tree_of rows terms) rows terms
program_is_flat rows terms e =
    let x = taken_is_flat rows terms (length terms) (all_is (length terms) (used_by rows terms) e) in
    let p = x.0 in
    let q : terms ≡ flat_terms p = sym (take_all (length terms) terms (omega arith)) ∙ x.3 in
    let same : p ≡ tree_of rows terms = sym (flat_form_tells_the_program p x.1) ∙ ap (λ r. tree_of r (flat_terms p)) (sym x.2) ∙ ap (tree_of rows) (sym q) in
    subst (λ (t : Tree). IsFlat t rows terms) same (record { within = x.1; rows_are = x.2; terms_are = q })

pub flat_is_program : (p : Tree) → Within p → is_program (flat_rows p) (flat_terms p) ≡ true
flat_is_program p w =
    let n = length (flat_terms p) in
    ap (is_all n) (flat_is_taken p (flat_terms p) n w (omega arith) (take_all n (flat_terms p) (omega arith))) ∙ eq-eqb n n refl

with_says : (n : ℕ) (terms : List Term) (o : Option ℕ) (e : ℕ × ℕ) → with_blanks n terms o ≡ Some e → (o ≡ Some e.1) × (e.0 ≡ n) × (all_blank (drop e.1 terms) ≡ true)
with_says n terms None e h = cc
with_says n terms (Some m) e h =
    split (all_blank (drop m terms)) (Some (n, m)) None (Some e) h
    (λ b g.
    let q : (n, m) ≡ e = cc in
    let a = ap (λ (x : ℕ × ℕ). x.0) q in
    let c = ap (λ (x : ℕ × ℕ). x.1) q in
    (ap (λ k. Some k) c, sym a, subst (λ (k : ℕ). all_blank (drop k terms) ≡ true) c b))
    (λ _ g. cc)

-- the first n, and blanks behind them
padded_is : {X : Type 0} (b : X) (n : ℕ) (xs : List X) → n ≤ length xs → drop n xs ≡ replicate (length xs - n) b → xs ≡ padded b (length xs) (take n xs)
padded_is b n xs le e =
    sym (take-append-drop n xs) ∙ ap (λ d. take n xs ++ d) e ∙ ap (λ m. take n xs ++ replicate (length xs - m) b) (sym (length-take-le n xs le))

-- the parts of tables that are taken
pub record Parts (p : Tree) (rows : List Row) (terms : List Term) (n m : ℕ) : Type 0 where
  pub flat : IsFlat p (take n rows) (take m terms)
  pub hold : Hold p rows terms
  pub rows_reach : n ≤ length rows
  pub terms_reach : m ≤ length terms

pub extents_hold : (rows : List Row) (terms : List Term) (e : ℕ × ℕ) → extents rows terms ≡ Some e → (p : Tree) × Parts p rows terms e.0 e.1
extents_hold rows terms e h =
    split (leb (extent rows) 128) (with_blanks (extent rows) terms (used_by (take (extent rows) rows) terms)) None (Some e) h
    (λ _ g.
    let s = with_says (extent rows) terms (used_by (take (extent rows) rows) terms) e g in
    let m = e.1 in
    let x = taken_is_flat (take (extent rows) rows) terms m s.0 in
    let p = x.0 in
    let b = blank_behind_extent rows in
    let le = x.4 in
    let l = length-drop m terms in
    let blank : drop m terms ≡ replicate (length terms - m) blank_term = all_blank_is (drop m terms) s.2 ∙ ap (λ k. replicate k blank_term) l in
    let parts : Parts p rows terms (extent rows) m = record {
      flat = record { within = x.1; rows_are = x.2; terms_are = x.3 };
      hold = (padded_is blank_row (extent rows) rows b.0 b.1 ∙ ap (padded blank_row (length rows)) x.2, padded_is blank_term m terms le blank ∙ ap (padded blank_term (length terms)) x.3);
      rows_reach = b.0;
      terms_reach = le;
    } in
    (p, subst (λ (k : ℕ). Parts p rows terms k m) (sym s.1) parts))
    (λ _ g. cc)

pub held_has_extents : (p : Tree) (rows : List Row) (terms : List Term) → Within p → Hold p rows terms → extents rows terms ≡ Some (length (flat_rows p), length (flat_terms p))
held_has_extents p rows terms w h =
    let n = length (flat_rows p) in
    let m = length (flat_terms p) in
    let behind = replicate (length rows - n) blank_row in
    let behind_terms = replicate (length terms - m) blank_term in
    let e : extent rows ≡ n = ap extent h.0 ∙ extent_padded (flat_rows p) (length rows - n) ∙ tree_extent 0 0 p in
    let few = w.rows_are_few in
    let lines = ap length (flat_form_tells_the_lines p w) in
    let count = length-map (flat_rows p) (line_from (flat_terms p)) in
    let taken : take n rows ≡ flat_rows p = ap (take n) h.0 ∙ take_at (flat_rows p) behind n refl in
    let taken_terms : take m terms ≡ flat_terms p = ap (take m) h.1 ∙ take_at (flat_terms p) behind_terms m refl in
    let left : drop m terms ≡ behind_terms = ap (drop m) h.1 ∙ drop_at (flat_terms p) behind_terms m refl in
    let long = ap length h.1 ∙ length-append (flat_terms p) behind_terms in
    let used = flat_is_taken p terms m w (omega arith) taken_terms in
    ap (λ k. cond (leb k 128) (with_blanks k terms (used_by (take k rows) terms)) None) e
    ∙ ap (λ b. cond b (with_blanks n terms (used_by (take n rows) terms)) None) (le-leb n 128 (omega arith))
    ∙ ap (λ r. with_blanks n terms (used_by r terms)) taken
    ∙ ap (with_blanks n terms) used
    ∙ ap (λ b. cond b (Some (n, m)) None) (ap all_blank left ∙ blanks_are_blank (length terms - m))

-- what is taken of tables
module _ (rows : List Row) (terms : List Term) (n m : ℕ) (e : extents rows terms ≡ Some (n, m)) where
  parts : Parts (extents_hold rows terms (n, m) e).0 rows terms n m
  parts = (extents_hold rows terms (n, m) e).1

  flat_parts : IsFlat (extents_hold rows terms (n, m) e).0 (take n rows) (take m terms)
  flat_parts = parts.flat

  pub part_is_program : is_program (take n rows) (take m terms) ≡ true
  part_is_program =
      ap (λ r. is_program r (take m terms)) flat_parts.rows_are
      ∙ ap (is_program (flat_rows (extents_hold rows terms (n, m) e).0)) flat_parts.terms_are
      ∙ flat_is_program (extents_hold rows terms (n, m) e).0 flat_parts.within

  pub part_is_held : (extents rows terms ≡ Some (length (take n rows), length (take m terms))) × (take n rows ≡ take (length (take n rows)) rows) × (take m terms ≡ take (length (take m terms)) terms)
  part_is_held =
      let a = length-take-le n rows parts.rows_reach in
      let b = length-take-le m terms parts.terms_reach in (
        e ∙ ap (λ k. Some (k, m)) (sym a) ∙ ap (λ k. Some (length (take n rows), k)) (sym b),
        ap (λ k. take k rows) (sym a),
        ap (λ k. take k terms) (sym b),
      )

  tree_is : (extents_hold rows terms (n, m) e).0 ≡ tree_of (take n rows) (take m terms)
  tree_is =
      sym (flat_form_tells_the_program (extents_hold rows terms (n, m) e).0 flat_parts.within)
      ∙ ap (λ r. tree_of r (flat_terms (extents_hold rows terms (n, m) e).0)) (sym flat_parts.rows_are)
      ∙ ap (tree_of (take n rows)) (sym flat_parts.terms_are)

  pub part_is_accepted : Within (tree_of (take n rows) (take m terms)) × Hold (tree_of (take n rows) (take m terms)) rows terms × (take n rows ≡ flat_rows (tree_of (take n rows) (take m terms))) × (take m terms ≡ flat_terms (tree_of (take n rows) (take m terms)))
  part_is_accepted =
      subst (λ (p : Tree). Within p × Hold p rows terms × (take n rows ≡ flat_rows p) × (take m terms ≡ flat_terms p)) tree_is
      (flat_parts.within, parts.hold, flat_parts.rows_are, flat_parts.terms_are)

pub none_is_held : (rows : List Row) (terms : List Term) → extents rows terms ≡ None → (p : Tree) → Within p → Hold p rows terms → ⊥
none_is_held rows terms e p w h = let q = held_has_extents p rows terms w h in cc
