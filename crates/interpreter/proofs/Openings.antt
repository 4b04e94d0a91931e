-- A search for the row that opens a channel's handler. Assumes nothing.
use Rattle.std.proofs.Common.{◌≡◌, ℕ, zero, suc, ◌+◌, ◌<◌, ◌≤◌, true, false, List, [], length, get_or, drop, Some, None, Option, MatchOption, sym, refl, ap, ◌∙◌, subst, arith}
use Rattle.std.specs.List.{AllWithin, HoldsAt}
use Rattle.std.proofs.lemmas.List.{at_drop_more, at_drop_all}
use Rattle.std.proofs.lemmas.Bool.{eqb-true, eqb-false}
use Rattle.std.proofs.lemmas.Bool.Decides.{nat_tests}
use Rattle.language.specs.Block.{Block, done, Tree, handler_of}
use Rattle.program.specs.declared.rows.Kind.{Kind}
use Rattle.program.specs.declared.rows.Kind.TheVariants as kind
use Rattle.program.specs.declared.rows.Row.{Row}
use Rattle.program.specs.declared.rows.Term.{Term}
use Rattle.program.specs.Building.{blank_row, is_handler_of}
use Rattle.program.specs.Trees.{here, handled, tree_of}
use Rattle.interpreter.specs.Handlers.{BeginsAt, Begins}
use Rattle.interpreter.specs.Places.{frames_at}

-- another row, and the handlers behind it
passes : (c : ℕ) (k : Kind) (b : Block) (p : Tree) → is_handler_of c k ≡ false → handler_of (handled k b p) c ≡ handler_of p c
passes c kind.Skip b p h = refl
passes c (kind.Handler d) b p h = grind (arith, nat_tests, eqb-false c d h)
passes c (kind.Assign v) b p h = refl
passes c (kind.Output d) b p h = refl
passes c kind.If b p h = refl
passes c kind.While b p h = refl
passes c kind.Else b p h = refl
passes c kind.Close b p h = refl

-- the row itself
record Found (c : ℕ) (k : Kind) (b : Block) (p : Tree) : Type 0 where
  pub is_handler : k ≡ kind.Handler c
  pub body : handler_of (handled k b p) c ≡ b

found : (c : ℕ) (k : Kind) (b : Block) (p : Tree) → is_handler_of c k ≡ true → Found c k b p
found c kind.Skip b p h = cc
found c (kind.Handler d) b p h = let e = eqb-true c d h in record { is_handler = ap kind.Handler (sym e); body = grind (arith, nat_tests, e) }
found c (kind.Assign v) b p h = cc
found c (kind.Output d) b p h = cc
found c kind.If b p h = cc
found c kind.While b p h = cc
found c kind.Else b p h = cc
found c kind.Close b p h = cc

-- the handler of c is to be found from row i on
abbrev Behind : List Row → ℕ → ℕ → Type 0
Behind rows c i = (terms : List Term) → handler_of (tree_of rows terms) c ≡ handler_of (tree_of (drop i rows) terms) c

at_row : (rows : List Row) (c i : ℕ) → i < length rows → (terms : List Term) → handler_of (tree_of (drop i rows) terms) c ≡ handler_of (handled (get_or rows i blank_row).kind (here (frames_at rows terms (i + 1))) (tree_of (drop (i + 1) rows) terms)) c
at_row rows c i h terms = at_drop_more (λ rs. handler_of (tree_of rs terms) c) rows i blank_row h

behind_more : (rows : List Row) (c i : ℕ) → i < length rows → Behind rows c i → is_handler_of c (get_or rows i blank_row).kind ≡ false → Behind rows c (i + 1)
behind_more rows c i h b n terms =
    b terms ∙ at_row rows c i h terms ∙ passes c (get_or rows i blank_row).kind (here (frames_at rows terms (i + 1))) (tree_of (drop (i + 1) rows) terms) n

behind_all : (rows : List Row) (c i : ℕ) → length rows ≤ i → Behind rows c i → (terms : List Term) → handler_of (tree_of rows terms) c ≡ done
behind_all rows c i h b terms = b terms ∙ at_drop_all (λ rs. handler_of (tree_of rs terms) c) rows i h

begins_here : (rows : List Row) (c i : ℕ) → i < length rows → Behind rows c i → is_handler_of c (get_or rows i blank_row).kind ≡ true → BeginsAt rows c i
begins_here rows c i h b is =
    record {
      within = h;
      is_handler = (found c (get_or rows i blank_row).kind done [] is).is_handler;
      body = λ terms. b terms ∙ at_row rows c i h terms ∙ (found c (get_or rows i blank_row).kind (here (frames_at rows terms (i + 1))) (tree_of (drop (i + 1) rows) terms) is).body;
    }

-- no row before row i is the handler's
behind_none : (rows : List Row) (c i : ℕ) → i ≤ length rows → AllWithin (λ r. is_handler_of c r.kind ≡ false) rows 0 i → Behind rows c i
behind_none rows c zero h none = λ terms. refl
behind_none rows c (suc i) h none =
    let e : i + 1 ≡ suc i = omega arith in
    let before = behind_none rows c i (omega arith) (λ k d low high. none k d low (omega arith)) in
    subst (Behind rows c) e (behind_more rows c i (omega arith) before (none i blank_row (omega arith) (omega arith)))

-- where a search for the first such row has come to
pub begins : (rows : List Row) (c : ℕ) (r : Option ℕ)
    → MatchOption r (AllWithin (λ r. is_handler_of c r.kind ≡ false) rows 0 (length rows))
    (λ i. (i < length rows) × HoldsAt (λ r. is_handler_of c r.kind ≡ true) rows i × AllWithin (λ r. is_handler_of c r.kind ≡ false) rows 0 i)
    → Begins rows c r
begins rows c None none = behind_all rows c (length rows) (omega arith) (behind_none rows c (length rows) (omega arith) none)
begins rows c (Some i) first = begins_here rows c i first.0 (behind_none rows c i (omega (arith, first.0)) first.2) (first.1 blank_row)
