-- Lines that leave nothing open are the lines of a program. Assumes nothing.
use Rattle.std.proofs.Common.{◌≡◌, ℕ, ◌-◌, ◌<◌, ◌≤◌, Bool, true, false, List, [], ◌∷◌, ◌++◌, length, sym, refl, ap, ◌∙◌, subst, append_assoc, arith}
use Rattle.std.specs.List.{AllByRecursion}
use Rattle.language.specs.Block.{Block, done, skip, assign, output, branch, repeat, Tree}
use Rattle.language.specs.Expression.{Expr}
use Rattle.program.specs.declared.rows.Kind.{Kind}
use Rattle.program.specs.declared.rows.Kind.TheVariants as kind
use Rattle.program.specs.declared.rows.Term.{Term}
use Rattle.program.specs.Lines.{Line, FitKind, FitLine}
use Rattle.program.specs.Terms.{Expression}
use Rattle.program.specs.Trees.{expression_of, Frame, whole, parted, prefixed, framed, frames, here, handled, program_of}
use Rattle.program.specs.Writing.{terms_of, else_line, close_line, block_lines, lines_of, FitExpression, FitBlock, FitHandler}
use Rattle.program.proofs.Spelling.{one_expression_is_spelled}

-- the open blocks, the innermost first and the handler last: true where an Else may come
abbrev pub Moves : Kind → List Bool → List Bool → Type 0
Moves kind.Skip ms ns = (0 < length ms) × (ns ≡ ms)
Moves (kind.Handler c) ms ns = (ms ≡ []) × (ns ≡ false ∷ [])
Moves (kind.Assign v) ms ns = (0 < length ms) × (ns ≡ ms)
Moves (kind.Output c) ms ns = (0 < length ms) × (ns ≡ ms)
Moves kind.If ms ns = (0 < length ms) × (length ms ≤ 8) × (ns ≡ true ∷ ms)
Moves kind.While ms ns = (0 < length ms) × (length ms ≤ 8) × (ns ≡ false ∷ ms)
Moves kind.Else ms ns = (rs : List Bool) × (ms ≡ true ∷ rs) × (ns ≡ false ∷ rs)
Moves kind.Close ms ns = (m : Bool) × (ms ≡ m ∷ ns)

-- the lines open and close blocks in order, and leave none open
abbrev pub Ordered : List Bool → List Line → Type 0
Ordered ms [] = ms ≡ []
Ordered ms (l ∷ ls) = (ns : List Bool) × Moves l.0 ms ns × Ordered ns ls

-- the lines of what is left of open blocks, and of the handlers behind them
abbrev frame_lines : List Frame → Tree → List Line
frame_lines [] p = lines_of p
frame_lines (whole b ∷ fs) p = block_lines b ++ close_line ∷ frame_lines fs p
frame_lines (parted a b ∷ fs) p = block_lines a ++ else_line ∷ (block_lines b ++ close_line ∷ frame_lines fs p)

-- there is a frame for each open block, and a second part only where an Else may come
abbrev Matches : List Bool → List Frame → Type 0
Matches [] [] = Unit {0}
Matches [] (f ∷ fs) = ⊥
Matches (m ∷ ms) [] = ⊥
Matches (m ∷ ms) (whole b ∷ fs) = FitBlock (8 - length ms) b × Matches ms fs
Matches (m ∷ ms) (parted a b ∷ fs) = (m ≡ true) × FitBlock (8 - length ms) a × FitBlock (8 - length ms) b × Matches ms fs

abbrev Closed : List Bool → List Line → List Frame → Tree → Type 0
Closed ms ls fs p = (ls ≡ frame_lines fs p) × Matches ms fs × AllByRecursion FitHandler p

-- a command, of which the lines are pre, in front of the innermost block
module _ (g : Block → Block) (pre : List Line) (ms : List Bool) (lines : (x : Block) → block_lines (g x) ≡ pre ++ block_lines x) (fit : (x : Block) (d : ℕ) → d ≡ 8 - (length ms - 1) → FitBlock d x → FitBlock d (g x)) (pos : 0 < length ms) (p : Tree) where
  in_front : (x : Block) (ls : List Line) → pre ++ (block_lines x ++ ls) ≡ block_lines (g x) ++ ls
  in_front x ls = sym (ap (λ l. l ++ ls) (lines x) ∙ append_assoc pre (block_lines x) ls)

prefixed_lines : (g : Block → Block) (pre : List Line) (ms : List Bool) (lines : (x : Block) → block_lines (g x) ≡ pre ++ block_lines x) (fit : (x : Block) (d : ℕ) → d ≡ 8 - (length ms - 1) → FitBlock d x → FitBlock d (g x)) (pos : 0 < length ms) (p : Tree) (fs : List Frame) → Matches ms fs → (pre ++ frame_lines fs p ≡ frame_lines (prefixed g fs) p) × Matches ms (prefixed g fs)
prefixed_lines g pre [] lines fit pos p fs m = absurd (omega arith)
prefixed_lines g pre (b ∷ ms) lines fit pos p [] m = absurd m
prefixed_lines g pre (b ∷ ms) lines fit pos p (whole x ∷ fs) m =
    let z : 8 - length ms ≡ 8 - (length (b ∷ ms) - 1) = omega arith in
    (in_front g pre (b ∷ ms) lines fit pos p x (close_line ∷ frame_lines fs p), (fit x (8 - length ms) z m.0, m.1))
prefixed_lines g pre (b ∷ ms) lines fit pos p (parted x y ∷ fs) m =
    let z : 8 - length ms ≡ 8 - (length (b ∷ ms) - 1) = omega arith in
    (in_front g pre (b ∷ ms) lines fit pos p x (else_line ∷ (block_lines y ++ close_line ∷ frame_lines fs p)), (m.0, fit x (8 - length ms) z m.1, m.2, m.3))

-- one line before others
abbrev Before : Kind → List Term → List Bool → List Frame → Tree → List Line → Type 0
Before k ts ms fs p ls = Closed ms ((k, ts) ∷ ls) (framed k (expression_of ts) fs) (handled k (here fs) p)

plain : (g : Block → Block) (l : Line) (ms ns : List Bool) (fs : List Frame) (p : Tree) (ls : List Line) → ((x : Block) → block_lines (g x) ≡ l ∷ block_lines x) → ((x : Block) (d : ℕ) → FitBlock d x → FitBlock d (g x)) → 0 < length ms → ns ≡ ms → Closed ns ls fs p → Closed ms (l ∷ ls) (prefixed g fs) p
plain g l ms ns fs p ls lines fit pos same c =
    let x = prefixed_lines g (l ∷ []) ms lines (λ x d _ f. fit x d f) pos p fs (subst (λ (y : List Bool). Matches y fs) same c.1) in
    (ap (λ y. l ∷ y) c.0 ∙ x.0, x.1, c.2)

-- a part with its Close, or two, in front of what follows
module _ (ts : List Term) (h : Expression ts) (ms : List Bool) (pos : 0 < length ms) (few : length ms ≤ 8) (p : Tree) where
  e : Expr
  e = expression_of ts

  spelled : terms_of (expression_of ts) ≡ ts
  spelled = (one_expression_is_spelled ts h).1

  fits : FitExpression (expression_of ts)
  fits = (one_expression_is_spelled ts h).2

  inner : (d : ℕ) (b : Block) → d ≡ 8 - (length ms - 1) → FitBlock (8 - length ms) b → FitBlock (d - 1) b
  inner d b z f = let y : 8 - length ms ≡ d - 1 = omega arith in subst (λ (n : ℕ). FitBlock n b) y f

  one_part : (k : Kind) (g : Block → Block) (b : Block) (fs : List Frame) (ls : List Line) → ((x : Block) → block_lines (g x) ≡ (k, terms_of (expression_of ts)) ∷ (block_lines b ++ close_line ∷ block_lines x)) → ((x : Block) (d : ℕ) → d ≡ 8 - (length ms - 1) → FitBlock d x → FitBlock d (g x)) → ls ≡ block_lines b ++ close_line ∷ frame_lines fs p → Matches ms fs → ((k, ts) ∷ ls ≡ frame_lines (prefixed g fs) p) × Matches ms (prefixed g fs)
  one_part k g b fs ls lines fit same m =
      let pre = (k, ts) ∷ (block_lines b ++ close_line ∷ []) in
      let x = prefixed_lines g pre ms (λ x. lines x ∙ ap (λ us. (k, us) ∷ (block_lines b ++ close_line ∷ block_lines x)) spelled ∙ ap (λ y. (k, ts) ∷ y) (sym (append_assoc (block_lines b) (close_line ∷ []) (block_lines x)))) fit pos p fs m in
      (ap (λ y. (k, ts) ∷ y) (same ∙ sym (append_assoc (block_lines b) (close_line ∷ []) (frame_lines fs p))) ∙ x.0, x.1)

  two_parts : (a b : Block) (fs : List Frame) (ls : List Line) → FitBlock (8 - length ms) a → FitBlock (8 - length ms) b → ls ≡ block_lines a ++ else_line ∷ (block_lines b ++ close_line ∷ frame_lines fs p) → Matches ms fs → ((kind.If, ts) ∷ ls ≡ frame_lines (prefixed (branch true (expression_of ts) a b) fs) p) × Matches ms (prefixed (branch true (expression_of ts) a b) fs)
  two_parts a b fs ls fa fb same m =
      let close = close_line ∷ [] in
      let pre = (kind.If, ts) ∷ (block_lines a ++ else_line ∷ (block_lines b ++ close)) in
      let regroup : (ys : List Line) → block_lines a ++ else_line ∷ (block_lines b ++ close_line ∷ ys) ≡ (block_lines a ++ else_line ∷ (block_lines b ++ close)) ++ ys =
      λ ys. sym (append_assoc (block_lines a) (else_line ∷ (block_lines b ++ close)) ys ∙ ap (λ y. block_lines a ++ else_line ∷ y) (append_assoc (block_lines b) close ys)) in
      let x = prefixed_lines (branch true (expression_of ts) a b) pre ms
      (λ x. ap (λ us. (kind.If, us) ∷ (block_lines a ++ else_line ∷ (block_lines b ++ close_line ∷ block_lines x))) spelled ∙ ap (λ y. (kind.If, ts) ∷ y) (regroup (block_lines x)))
      (λ x d z f. (omega arith, fits, inner d a z fa, inner d b z fb, tt, f)) pos p fs m in
      (ap (λ y. (kind.If, ts) ∷ y) (same ∙ regroup (frame_lines fs p)) ∙ x.0, x.1)

  branches : (fs : List Frame) (ls : List Line) → Closed (true ∷ ms) ls fs p → Before kind.If ts ms fs p ls
  branches [] ls c = absurd c.1
  branches (whole b ∷ fs) ls c =
      let x = one_part kind.If (branch false (expression_of ts) b done) b fs ls (λ x. refl) (λ x d z f. (omega arith, fits, inner d b z c.1.0, tt, refl, f)) c.0 c.1.1 in
      (x.0, x.1, c.2)
  branches (parted a b ∷ fs) ls c = let x = two_parts a b fs ls c.1.1 c.1.2 c.0 c.1.3 in (x.0, x.1, c.2)

  repeats : (fs : List Frame) (ls : List Line) → Closed (false ∷ ms) ls fs p → Before kind.While ts ms fs p ls
  repeats [] ls c = absurd c.1
  repeats (whole b ∷ fs) ls c =
      let x = one_part kind.While (repeat (expression_of ts) b) b fs ls (λ x. refl) (λ x d z f. (omega arith, fits, inner d b z c.1.0, f)) c.0 c.1.1 in
      (x.0, x.1, c.2)
  repeats (parted a b ∷ fs) ls c = cc

begins : (c : ℕ) (fs : List Frame) (p : Tree) (ls : List Line) → c ≤ 15 → Closed (false ∷ []) ls fs p → Before (kind.Handler c) [] [] fs p ls
begins c [] p ls fit h = absurd h.1
begins c (whole b ∷ []) p ls fit h = (ap (λ y. (kind.Handler c, []) ∷ y) h.0, tt, ((fit, h.1.0), h.2))
begins c (whole b ∷ f ∷ fs) p ls fit h = absurd h.1.1
begins c (parted a b ∷ fs) p ls fit h = cc

parts : (rs : List Bool) (fs : List Frame) (p : Tree) (ls : List Line) → Closed (false ∷ rs) ls fs p → Before kind.Else [] (true ∷ rs) fs p ls
parts rs [] p ls h = absurd h.1
parts rs (whole b ∷ fs) p ls h = (ap (λ y. else_line ∷ y) h.0, (refl, tt, h.1.0, h.1.1), h.2)
parts rs (parted a b ∷ fs) p ls h = cc

moved : (ms ns : List Bool) (ls : List Line) (fs : List Frame) (p : Tree) → ns ≡ ms → Closed ns ls fs p → Closed ms ls fs p
moved ms ns ls fs p e c = (c.0, subst (λ (x : List Bool). Matches x fs) e c.1, c.2)

bare : (k : Kind) (ts : List Term) (ms : List Bool) (fs : List Frame) (p : Tree) (ls : List Line) → ts ≡ [] → Before k [] ms fs p ls → Before k ts ms fs p ls
bare k ts ms fs p ls e b = subst (λ (x : List Term). Before k x ms fs p ls) (sym e) b

one_line : (k : Kind) (ts : List Term) (ms ns : List Bool) (fs : List Frame) (p : Tree) (ls : List Line) → FitKind k ts → Moves k ms ns → Closed ns ls fs p → Before k ts ms fs p ls
one_line kind.Skip ts ms ns fs p ls fit mv c = bare kind.Skip ts ms fs p ls fit (plain skip (kind.Skip, []) ms ns fs p ls (λ x. refl) (λ x d f. f) mv.0 mv.1 c)
one_line (kind.Handler d) ts ms ns fs p ls fit mv c =
    bare (kind.Handler d) ts ms fs p ls fit.1 (moved ms [] _ _ _ (sym mv.0) (begins d fs p ls fit.0 (moved (false ∷ []) ns ls fs p mv.1 c)))
one_line (kind.Assign v) ts ms ns fs p ls fit mv c =
    let s = one_expression_is_spelled ts fit.1 in
    plain (assign v (expression_of ts)) (kind.Assign v, ts) ms ns fs p ls (λ x. ap (λ us. (kind.Assign v, us) ∷ block_lines x) s.1) (λ x d f. (fit.0, s.2, f)) mv.0 mv.1 c
one_line (kind.Output o) ts ms ns fs p ls fit mv c =
    let s = one_expression_is_spelled ts fit.2 in
    plain (output o (expression_of ts)) (kind.Output o, ts) ms ns fs p ls (λ x. ap (λ us. (kind.Output o, us) ∷ block_lines x) s.1) (λ x d f. (fit.0, fit.1, s.2, f)) mv.0 mv.1 c
one_line kind.If ts ms ns fs p ls fit mv c = branches ts fit ms mv.0 mv.1 p fs ls (moved (true ∷ ms) ns ls fs p mv.2 c)
one_line kind.While ts ms ns fs p ls fit mv c = repeats ts fit ms mv.0 mv.1 p fs ls (moved (false ∷ ms) ns ls fs p mv.2 c)
one_line kind.Else ts ms ns fs p ls fit mv c =
    bare kind.Else ts ms fs p ls fit (moved ms (true ∷ mv.0) _ _ _ (sym mv.1) (parts mv.0 fs p ls (moved (false ∷ mv.0) ns ls fs p mv.2 c)))
one_line kind.Close ts ms ns fs p ls fit mv c =
    bare kind.Close ts ms fs p ls fit (moved ms (mv.0 ∷ ns) _ _ _ (sym mv.1) (ap (λ y. close_line ∷ y) c.0, (tt, c.1), c.2))

lines_closed : (ms : List Bool) (ls : List Line) → Ordered ms ls → AllByRecursion FitLine ls → Closed ms ls (frames ls) (program_of ls)
lines_closed ms [] o fit = (refl, subst (λ (x : List Bool). Matches x []) (sym o) tt, tt)
lines_closed ms (l ∷ ls) o fit = one_line l.0 l.1 ms o.0 (frames ls) (program_of ls) ls fit.0 o.1 (lines_closed o.0 ls o.2 fit.1)

none_open : (ls : List Line) (fs : List Frame) (p : Tree) → Closed [] ls fs p → (ls ≡ lines_of p) × (fs ≡ []) × AllByRecursion FitHandler p
none_open ls [] p c = (c.0, refl, c.2)
none_open ls (f ∷ fs) p c = absurd c.1

pub ordered_lines_are_a_program : (ls : List Line) → Ordered [] ls → AllByRecursion FitLine ls → (ls ≡ lines_of (program_of ls)) × (frames ls ≡ []) × AllByRecursion FitHandler (program_of ls)
ordered_lines_are_a_program ls o fit = none_open ls (frames ls) (program_of ls) (lines_closed [] ls o fit)
