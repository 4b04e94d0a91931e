-- The flat form of a program within the limits is sound. Assumes nothing.
use Rattle.std.proofs.Common.{◌≡◌, ℕ, zero, suc, ◌+◌, ◌-◌, ◌<◌, true, false, List, [], ◌∷◌, ◌++◌, length, get_or, drop, sym, refl, ap, ◌∙◌, subst, inl, inr, append_assoc, zero-add, arith, length-drop}
use Rattle.std.specs.List.{AllByRecursion}
use Rattle.std.proofs.lemmas.List.{drop-drop, drop_at, get_or-drop}
use Rattle.language.specs.Block.{Block, done, skip, assign, output, branch, repeat, Tree}
use Rattle.program.specs.declared.rows.Kind.{Kind}
use Rattle.program.specs.declared.rows.Kind.TheVariants as kind
use Rattle.program.specs.declared.rows.Row.{Row}
use Rattle.program.specs.declared.rows.Term.{Term}
use Rattle.program.specs.Building.{blank_row}
use Rattle.program.specs.Lines.{Line}
use Rattle.program.specs.Trees.{whole, around}
use Rattle.program.specs.Writing.{terms_of, else_line, close_line, block_lines, lines_of, all_terms, row, width, block_rows, tree_rows, flat_rows, flat_terms, FitBlock, FitHandler}
use Rattle.program.proofs.Flattening.{all_terms_append}
use Rattle.interpreter.specs.Laws.{FlatIsSound}
use Rattle.interpreter.specs.Places.{frames_at, second_of}
use Rattle.interpreter.specs.Sound.{Closes, Parts, SoundRow}
use Rattle.interpreter.proofs.Expressing.{expressed}
use Rattle.interpreter.proofs.Nests.{behind_parts, opened, part_frames, parts_frames, block_prefixes, tree_frames}

-- from place j on a list is known: then from a place further on too
drop_next : {X : Type 0} (l : List X) (j : ℕ) (x : X) (xs : List X) → drop j l ≡ x ∷ xs → drop (j + 1) l ≡ xs
drop_next l j x xs e = sym (drop-drop 1 j l) ∙ ap (drop 1) e

drop_past : {X : Type 0} (l : List X) (j : ℕ) (xs ys : List X) → drop j l ≡ xs ++ ys → drop (j + length xs) l ≡ ys
drop_past l j xs ys e = sym (drop-drop (length xs) j l) ∙ ap (drop (length xs)) e ∙ drop_at xs ys (length xs) refl

place_within : {X : Type 0} (l : List X) (j : ℕ) (x : X) (xs : List X) → drop j l ≡ x ∷ xs → j < length l
place_within l j x xs e = omega (arith, length-drop j l, ap length e)

item_at : {X : Type 0} (l : List X) (j : ℕ) (d x : X) (xs : List X) → drop j l ≡ x ∷ xs → get_or l j d ≡ x
item_at l j d x xs e = ap (λ i. get_or l i d) (omega arith) ∙ sym (get_or-drop j l 0 d) ∙ ap (λ m. get_or m 0 d) e

-- a line without an expression adds no terms
over_gap : (ls ms : List Line) (k : Kind) (ts : List Term) → all_terms (ls ++ (k, []) ∷ ms) ++ ts ≡ all_terms ls ++ (all_terms ms ++ ts)
over_gap ls ms k ts = ap (λ w. w ++ ts) (all_terms_append ls ((k, []) ∷ ms)) ∙ append_assoc (all_terms ls) (all_terms ms) ts

over_part : (xs : List Term) (ls ms : List Line) (ts : List Term) → (xs ++ all_terms (ls ++ close_line ∷ ms)) ++ ts ≡ xs ++ (all_terms ls ++ (all_terms ms ++ ts))
over_part xs ls ms ts = append_assoc xs (all_terms (ls ++ close_line ∷ ms)) ts ∙ ap (λ w. xs ++ w) (over_gap ls ms kind.Close ts)

module _ (rows : List Row) (terms : List Term) where
  -- each of the rows from row j on is sound
  abbrev Each : ℕ → List Row → Type 0
  Each j [] = Unit {0}
  Each j (r ∷ rs) = SoundRow rows terms j r r.kind × Each (j + 1) rs

  each_append : (j : ℕ) (xs ys : List Row) → Each j xs → Each (j + length xs) ys → Each j (xs ++ ys)
  each_append j [] ys a b = let e : j + 0 ≡ j = omega arith in subst (λ (i : ℕ). Each i ys) e b
  each_append j (x ∷ xs) ys a b =
      let e : j + suc (length xs) ≡ j + 1 + length xs = omega arith in
      (a.0, each_append (j + 1) xs ys a.1 (subst (λ (i : ℕ). Each i ys) e b))

  each_at : (j : ℕ) (rs : List Row) (i : ℕ) → i < length rs → Each j rs → SoundRow rows terms (j + i) (get_or rs i blank_row) (get_or rs i blank_row).kind
  each_at j [] i h a = absurd (omega arith)
  each_at j (r ∷ rs) zero h a = let e : j ≡ j + 0 = omega arith in subst (λ (n : ℕ). SoundRow rows terms n r r.kind) e a.0
  each_at j (r ∷ rs) (suc i) h a =
      let e : j + 1 + i ≡ j + suc i = omega arith in
      subst (λ (n : ℕ). SoundRow rows terms n (get_or rs i blank_row) (get_or rs i blank_row).kind) e (each_at (j + 1) rs i (omega arith) a.1)

  -- a part p behind row j, with u terms before it: its Close ends it, and the rest and more terms follow
  record Encloses (j u : ℕ) (p : Block) (rest : List Row) (more : List Term) : Type 0 where
    pub body : drop (j + 1) rows ≡ block_rows (j + 1) u p ++ row kind.Close (u + width p) 0 0 ∷ rest
    pub behind : drop (j + 1 + length (block_rows (j + 1) u p) + 1) rows ≡ rest
    pub terms_behind : drop (u + width p) terms ≡ more
    pub inner : Block
    pub opens : frames_at rows terms (j + 1) ≡ whole inner ∷ opened terms rest
    pub closes : Closes rows terms j (j + 1 + length (block_rows (j + 1) u p))

  encloses : (j u : ℕ) (p : Block) (x : Row) (rest : List Row) (more : List Term) → drop j rows ≡ x ∷ (block_rows (j + 1) u p ++ row kind.Close (u + width p) 0 0 ∷ rest) → drop u terms ≡ all_terms (block_lines p) ++ more → Encloses j u p rest more
  encloses j u p x rest more r t =
      let body = block_rows (j + 1) u p in
      let close = row kind.Close (u + width p) 0 0 in
      let end = j + 1 + length body in
      let r₁ = drop_next rows j x (body ++ close ∷ rest) r in
      let r₂ = drop_past rows (j + 1) body (close ∷ rest) r₁ in
      let r₃ = drop_next rows end close rest r₂ in
      let y = part_frames terms body rest (u + width p) (block_prefixes terms (j + 1) u p (close ∷ rest)) in
      let f = ap (opened terms) r₁ ∙ y.1 in
      record {
        body = r₁;
        behind = r₃;
        terms_behind = drop_past terms u (all_terms (block_lines p)) more t;
        inner = y.0;
        opens = f;
        closes =
            record {
              after = omega arith;
              within = place_within rows end close rest r₂;
              is_close = ap (λ (c : Row). c.kind) (item_at rows end blank_row close rest r₂);
              goes_on = ap (opened terms) r₃ ∙ sym (ap around f);
            };
      }

  -- a block's rows from row j on, before rs, with the terms of its lines from u on, before ts
  sound_block : (j u d : ℕ) (b : Block) (rs : List Row) (ts : List Term) → drop j rows ≡ block_rows j u b ++ rs → drop u terms ≡ all_terms (block_lines b) ++ ts → FitBlock d b → Each j (block_rows j u b)
  sound_block j u d done rs ts r t h = tt
  sound_block j u d (skip k) rs ts r t h = (tt, sound_block (j + 1) u d k rs ts (drop_next rows j (row kind.Skip u 0 0) (block_rows (j + 1) u k ++ rs) r) t h)
  sound_block j u d (assign v e k) rs ts r t h =
      let u₁ = u + length (terms_of e) in
      let ts₁ = all_terms (block_lines k) ++ ts in
      let t₀ = t ∙ append_assoc (terms_of e) (all_terms (block_lines k)) ts in (
        (omega (arith, h.0), expressed terms u e (kind.Assign v) 0 ts₁ t₀ h.1.0),
        sound_block (j + 1) u₁ d k rs ts (drop_next rows j (row (kind.Assign v) u (length (terms_of e)) 0) (block_rows (j + 1) u₁ k ++ rs) r) (drop_past terms u (terms_of e) ts₁ t₀) h.2,
      )
  sound_block j u d (output c e k) rs ts r t h =
      let u₁ = u + length (terms_of e) in
      let ts₁ = all_terms (block_lines k) ++ ts in
      let t₀ = t ∙ append_assoc (terms_of e) (all_terms (block_lines k)) ts in (
        (h.0, omega (arith, h.1), expressed terms u e (kind.Output c) 0 ts₁ t₀ h.2.0),
        sound_block (j + 1) u₁ d k rs ts (drop_next rows j (row (kind.Output c) u (length (terms_of e)) 0) (block_rows (j + 1) u₁ k ++ rs) r) (drop_past terms u (terms_of e) ts₁ t₀) h.3,
      )
  sound_block j u d (branch true e p q k) rs ts r t h =
      let u₁ = u + length (terms_of e) in
      let u₂ = u₁ + width p in
      let u₃ = u₂ + width q in
      let first = block_rows (j + 1) u₁ p in
      let middle = j + 1 + length first in
      let second = block_rows (middle + 1) u₂ q in
      let end = middle + 1 + length second in
      let rest = block_rows (end + 1) u₃ k in
      let else = row kind.Else u₂ 0 end in
      let close = row kind.Close u₃ 0 0 in
      let part = second ++ close ∷ (rest ++ rs) in
      let ts₃ = all_terms (block_lines k) ++ ts in
      let ts₂ = all_terms (block_lines q) ++ ts₃ in
      let ts₁ = all_terms (block_lines p) ++ ts₂ in
      let t₀ : drop u terms ≡ terms_of e ++ ts₁ =
      t
      ∙ append_assoc (terms_of e) (all_terms (block_lines p ++ else_line ∷ (block_lines q ++ close_line ∷ block_lines k))) ts
      ∙ ap (λ w. terms_of e ++ w) (over_gap (block_lines p) (block_lines q ++ close_line ∷ block_lines k) kind.Else ts ∙ ap (λ w. all_terms (block_lines p) ++ w) (over_gap (block_lines q) (block_lines k) kind.Close ts))
      in
      let t₁ = drop_past terms u (terms_of e) ts₁ t₀ in
      let t₂ = drop_past terms u₁ (all_terms (block_lines p)) ts₂ t₁ in
      let r₁ : drop (j + 1) rows ≡ first ++ else ∷ part =
      drop_next rows j (row kind.If u (length (terms_of e)) middle) ((first ++ else ∷ (second ++ close ∷ rest)) ++ rs) r ∙ behind_parts first second rest rs else close
      in
      let r₂ = drop_past rows (j + 1) first (else ∷ part) r₁ in
      let y = encloses middle u₂ q else (rest ++ rs) ts₃ r₂ t₂ in
      let x = parts_frames terms first second (rest ++ rs) u₂ u₃ end y.inner (block_prefixes terms (j + 1) u₁ p (else ∷ part)) (sym (ap (opened terms) y.body) ∙ y.opens) in
      let f = ap (opened terms) r₁ ∙ x.1 in
      let at_middle = item_at rows middle blank_row else part r₂ in
      let parts : Parts rows terms j middle end = record { after = omega arith; is_else = ap (λ (c : Row). c.kind) at_middle; second = rw f y.opens; closes = y.closes } in (
        (expressed terms u e kind.If middle ts₁ t₀ h.1.0, inr (subst (λ (n : ℕ). Parts rows terms j middle n) (ap (λ (c : Row). c.partner) (sym at_middle)) parts)),
        each_append (j + 1) first (else ∷ (second ++ close ∷ rest)) (sound_block (j + 1) u₁ (d - 1) p (else ∷ part) ts₂ r₁ t₁ h.2) (
          tt,
          each_append (middle + 1) second (close ∷ rest) (sound_block (middle + 1) u₂ (d - 1) q (close ∷ (rest ++ rs)) ts₃ y.body t₂ h.3)
              (tt, sound_block (end + 1) u₃ d k rs ts y.behind y.terms_behind h.5),
        ),
      )
  sound_block j u d (branch false e p q k) rs ts r t h =
      let u₁ = u + length (terms_of e) in
      let first = block_rows (j + 1) u₁ p in
      let end = j + 1 + length first in
      let rest = block_rows (end + 1) (u₁ + width p) k in
      let close = row kind.Close (u₁ + width p) 0 0 in
      let if = row kind.If u (length (terms_of e)) end in
      let ts₂ = all_terms (block_lines k) ++ ts in
      let ts₁ = all_terms (block_lines p) ++ ts₂ in
      let t₀ = t ∙ over_part (terms_of e) (block_lines p) (block_lines k) ts in
      let t₁ = drop_past terms u (terms_of e) ts₁ t₀ in
      let x = encloses j u₁ p if (rest ++ rs) ts₂ (r ∙ ap (λ w. if ∷ w) (append_assoc first (close ∷ rest) rs)) t₁ in (
        (expressed terms u e kind.If end ts₁ t₀ h.1.0, inl (record { closes = x.closes; alone = ap second_of x.opens })),
        each_append (j + 1) first (close ∷ rest) (sound_block (j + 1) u₁ (d - 1) p (close ∷ (rest ++ rs)) ts₂ x.body t₁ h.2)
            (tt, sound_block (end + 1) (u₁ + width p) d k rs ts x.behind x.terms_behind h.5),
      )
  sound_block j u d (repeat e p k) rs ts r t h =
      let u₁ = u + length (terms_of e) in
      let body = block_rows (j + 1) u₁ p in
      let end = j + 1 + length body in
      let rest = block_rows (end + 1) (u₁ + width p) k in
      let close = row kind.Close (u₁ + width p) 0 0 in
      let while = row kind.While u (length (terms_of e)) end in
      let ts₂ = all_terms (block_lines k) ++ ts in
      let ts₁ = all_terms (block_lines p) ++ ts₂ in
      let t₀ = t ∙ over_part (terms_of e) (block_lines p) (block_lines k) ts in
      let t₁ = drop_past terms u (terms_of e) ts₁ t₀ in
      let x = encloses j u₁ p while (rest ++ rs) ts₂ (r ∙ ap (λ w. while ∷ w) (append_assoc body (close ∷ rest) rs)) t₁ in (
        (expressed terms u e kind.While end ts₁ t₀ h.1.0, x.closes),
        each_append (j + 1) body (close ∷ rest) (sound_block (j + 1) u₁ (d - 1) p (close ∷ (rest ++ rs)) ts₂ x.body t₁ h.2)
            (tt, sound_block (end + 1) (u₁ + width p) d k rs ts x.behind x.terms_behind h.3),
      )

  sound_tree : (j u : ℕ) (p : Tree) → drop j rows ≡ tree_rows j u p → drop u terms ≡ all_terms (lines_of p) → AllByRecursion FitHandler p → Each j (tree_rows j u p)
  sound_tree j u [] r t h = tt
  sound_tree j u (g ∷ gs) r t h =
      let u₁ = u + width g.body in
      let body = block_rows (j + 1) u g.body in
      let end = j + 1 + length body in
      let rest = tree_rows (end + 1) u₁ gs in
      let close = row kind.Close u₁ 0 0 in
      let ts = all_terms (lines_of gs) in
      let t₀ = t ∙ all_terms_append (block_lines g.body) (close_line ∷ lines_of gs) in
      let x = encloses j u g.body (row (kind.Handler g.channel) u 0 end) rest ts r t₀ in (
        (ap length (x.opens ∙ ap (λ fs. whole x.inner ∷ fs) (tree_frames terms (end + 1) u₁ gs)), x.closes),
        each_append (j + 1) body (close ∷ rest) (sound_block (j + 1) u 8 g.body (close ∷ rest) ts x.body t₀ h.0.1) (tt, sound_tree (end + 1) u₁ gs x.behind x.terms_behind h.1),
      )

pub flat_is_sound : FlatIsSound
flat_is_sound p w i h =
    let rows = flat_rows p in
    let terms = flat_terms p in
    subst (λ (n : ℕ). SoundRow rows terms n (get_or rows i blank_row) (get_or rows i blank_row).kind) (zero-add i)
    (each_at rows terms 0 rows i h (sound_tree rows terms 0 0 p refl refl w.handlers_fit))
