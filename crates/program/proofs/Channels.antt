-- Lines that are put one after the other have one handler a channel. Assumes nothing.
use Rattle.std.proofs.Common.{◌≡◌, ℕ, zero, suc, false, ◌||◌, eqb, List, [], ◌∷◌, ◌++◌, length, sym, refl, ap, ◌∙◌, subst, ⊎_elim}
use Rattle.std.proofs.Math.Bool.{or_comm}
use Rattle.std.proofs.lemmas.List.Folds.{list_any-append}
use Rattle.language.specs.Block.{Block, Tree}
use Rattle.program.specs.declared.rows.Kind.{Kind}
use Rattle.program.specs.declared.rows.Kind.TheVariants as kind
use Rattle.program.specs.declared.rows.Row.{Row}
use Rattle.program.specs.Lines.{Line}
use Rattle.program.specs.Building.{Tables, linked_at, is_handler_of, has_handler, is_twice}
use Rattle.program.specs.Trees.{frames, here, handled, program_of}
use Rattle.program.specs.Writing.{row, is_listed, Once}
use Rattle.program.proofs.Flattening.{Channels}
use Rattle.program.proofs.Runs.{Runs}
use Rattle.program.proofs.Tables.{Same, nested_same, build_ok}

handler_linked : (c : ℕ) (rows : List Row) (o j : ℕ) → has_handler c (linked_at rows o j) ≡ has_handler c rows
handler_linked c [] o j = refl
handler_linked c (r ∷ rs) zero j = refl
handler_linked c (r ∷ rs) (suc o) j = ap (λ b. is_handler_of c r.kind || b) (handler_linked c rs o j)

handler_same : (c : ℕ) (rows after : List Row) → Same rows after → has_handler c after ≡ has_handler c rows
handler_same c rows after s = ⊎_elim (λ e. ap (has_handler c) e) (λ h. ap (has_handler c) h.2 ∙ handler_linked c rows h.0 h.1) s

module _ (rows after : List Row) (cs : List ℕ) (known : Channels rows cs) (same : Same rows after) where
  pushed : (r : Row) (c : ℕ) → has_handler c (after ++ r ∷ []) ≡ (is_listed c cs || (is_handler_of c r.kind || false))
  pushed r c = list_any-append (λ (q : Row). is_handler_of c q.kind) after (r ∷ []) ∙ ap (λ b. b || (is_handler_of c r.kind || false)) (handler_same c rows after same ∙ known c)

  kept : (r : Row) → ((c : ℕ) → is_handler_of c r.kind ≡ false) → Channels (after ++ r ∷ []) cs
  kept r none c = pushed r c ∙ ap (λ b. is_listed c cs || (b || false)) (none c) ∙ or_comm (is_listed c cs) false

  begun : (d f n p : ℕ) → Channels (after ++ row (kind.Handler d) f n p ∷ []) (d ∷ cs)
  begun d f n p c = pushed (row (kind.Handler d) f n p) c ∙ ap (λ b. is_listed c cs || b) (or_comm (eqb c d) false) ∙ or_comm (is_listed c cs) (eqb c d)

  once_line : (k : Kind) (f n p : ℕ) (b : Block) (q : Tree) → is_twice k rows ≡ false → ((ds : List ℕ) → Channels (after ++ row k f n p ∷ []) ds → Once ds q) → Once cs (handled k b q)
  once_line kind.Skip f n p b q w h = h cs (kept _ (λ c. refl))
  once_line (kind.Handler d) f n p b q w h = (sym (known d) ∙ w, h (d ∷ cs) (begun d f n p))
  once_line (kind.Assign v) f n p b q w h = h cs (kept _ (λ c. refl))
  once_line (kind.Output o) f n p b q w h = h cs (kept _ (λ c. refl))
  once_line kind.If f n p b q w h = h cs (kept _ (λ c. refl))
  once_line kind.While f n p b q w h = h cs (kept _ (λ c. refl))
  once_line kind.Else f n p b q w h = h cs (kept _ (λ c. refl))
  once_line kind.Close f n p b q w h = h cs (kept _ (λ c. refl))

pub runs_have_one_handler_a_channel : (s t : Tables) (ls : List Line) (cs : List ℕ) → Channels s.rows cs → Runs s ls t → Once cs (program_of ls)
runs_have_one_handler_a_channel s t [] cs known h = tt
runs_have_one_handler_a_channel s t (l ∷ ls) cs known h =
    let b = build_ok s 0 l h.0 (h.1 0) in
    let same = nested_same s.rows s.stack (length s.rows) l.0 b.0 b.1 in
    once_line s.rows b.0.0 cs known same l.0 (length s.terms) (length l.1) 0 (here (frames ls)) (program_of ls) b.3
    (λ ds g. runs_have_one_handler_a_channel h.0 t ls ds (subst (λ (x : Tables). Channels x.rows ds) b.2 g) h.2)
