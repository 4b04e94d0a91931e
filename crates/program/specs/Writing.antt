-- The one text of a program and its flat form, and what a program may hold. Assumes nothing.
use Rattle.std.specs.Prelude.{◌≡◌, ℕ, ◌+◌, ◌-◌, ◌^◌, ◌<◌, ◌≤◌, Bool, true, false, List, [], ◌∷◌, ◌++◌, map, length, ◌==◌}
use Rattle.std.specs.List.{AllByRecursion, list_any}
use Rattle.language.specs.Block.{Block, done, skip, assign, output, branch, repeat, Tree}
use Rattle.language.specs.Block as block
use Rattle.language.specs.Expression.{Expr, input, constant, variable, binary}
use Rattle.text.specs.Texts.{fed}
use Rattle.program.specs.declared.rows.Kind.{Kind}
use Rattle.program.specs.declared.rows.Kind.TheVariants as kind
use Rattle.program.specs.declared.rows.Row.{Row}
use Rattle.program.specs.declared.rows.Term.{Term}
use Rattle.program.specs.declared.rows.Term.TheVariants as term
use Rattle.program.specs.Lines.{Line, line_bytes}
use Rattle.program.specs.Building.{row_limit, term_limit}

-- the terms of an expression: an operator stands before its two parts
abbrev pub terms_of : Expr → List Term
terms_of input = term.Input ∷ []
terms_of (constant n) = term.Constant n ∷ []
terms_of (variable v) = term.Variable v ∷ []
terms_of (binary o l r) = term.Operator o ∷ (terms_of l ++ terms_of r)

abbrev pub else_line : Line
else_line = (kind.Else, [])

abbrev pub close_line : Line
close_line = (kind.Close, [])

-- the lines of a block, and of a program: a second part is written, or left out
abbrev pub block_lines : Block → List Line
block_lines done = []
block_lines (skip k) = (kind.Skip, []) ∷ block_lines k
block_lines (assign v e k) = (kind.Assign v, terms_of e) ∷ block_lines k
block_lines (output c e k) = (kind.Output c, terms_of e) ∷ block_lines k
block_lines (branch true e p q k) = (kind.If, terms_of e) ∷ (block_lines p ++ else_line ∷ (block_lines q ++ close_line ∷ block_lines k))
block_lines (branch false e p q k) = (kind.If, terms_of e) ∷ (block_lines p ++ close_line ∷ block_lines k)
block_lines (repeat e p k) = (kind.While, terms_of e) ∷ (block_lines p ++ close_line ∷ block_lines k)

abbrev pub lines_of : Tree → List Line
lines_of [] = []
lines_of (h ∷ hs) = (kind.Handler h.channel, []) ∷ (block_lines h.body ++ close_line ∷ lines_of hs)

-- each line with its line feed
abbrev pub written : Tree → List ℕ
written p = fed (map line_bytes (lines_of p))

-- the terms of lines, one after the other
abbrev pub all_terms : List Line → List Term
all_terms [] = []
all_terms (l ∷ ls) = l.1 ++ all_terms ls

abbrev pub row : Kind → ℕ → ℕ → ℕ → Row
row kind first count partner = record { kind = kind; first = first; count = count; partner = partner }

-- how many terms a block has
abbrev pub width : Block → ℕ
width b = length (all_terms (block_lines b))

-- the rows of a block, of which the first is row j, behind u terms: a row that opens a part has the row that ends it for its partner
abbrev pub block_rows : ℕ → ℕ → Block → List Row
block_rows j u done = []
block_rows j u (skip k) = row kind.Skip u 0 0 ∷ block_rows (j + 1) u k
block_rows j u (assign v e k) = row (kind.Assign v) u (length (terms_of e)) 0 ∷ block_rows (j + 1) (u + length (terms_of e)) k
block_rows j u (output c e k) = row (kind.Output c) u (length (terms_of e)) 0 ∷ block_rows (j + 1) (u + length (terms_of e)) k
block_rows j u (branch true e p q k) =
    let u₁ = u + length (terms_of e) in
    let u₂ = u₁ + width p in
    let u₃ = u₂ + width q in
    let first = block_rows (j + 1) u₁ p in
    let else = j + 1 + length first in
    let second = block_rows (else + 1) u₂ q in
    let close = else + 1 + length second in
    row kind.If u (length (terms_of e)) else ∷ (first ++ row kind.Else u₂ 0 close ∷ (second ++ row kind.Close u₃ 0 0 ∷ block_rows (close + 1) u₃ k))
block_rows j u (branch false e p q k) =
    let u₁ = u + length (terms_of e) in
    let u₂ = u₁ + width p in
    let first = block_rows (j + 1) u₁ p in
    let close = j + 1 + length first in
    row kind.If u (length (terms_of e)) close ∷ (first ++ row kind.Close u₂ 0 0 ∷ block_rows (close + 1) u₂ k)
block_rows j u (repeat e p k) =
    let u₁ = u + length (terms_of e) in
    let u₂ = u₁ + width p in
    let body = block_rows (j + 1) u₁ p in
    let close = j + 1 + length body in
    row kind.While u (length (terms_of e)) close ∷ (body ++ row kind.Close u₂ 0 0 ∷ block_rows (close + 1) u₂ k)

-- the rows of handlers
abbrev pub tree_rows : ℕ → ℕ → Tree → List Row
tree_rows j u [] = []
tree_rows j u (h ∷ hs) =
    let u₁ = u + width h.body in
    let body = block_rows (j + 1) u h.body in
    let close = j + 1 + length body in
    row (kind.Handler h.channel) u 0 close ∷ (body ++ row kind.Close u₁ 0 0 ∷ tree_rows (close + 1) u₁ hs)

-- the flat form of a program
abbrev pub flat_rows : Tree → List Row
flat_rows p = tree_rows 0 0 p

abbrev pub flat_terms : Tree → List Term
flat_terms p = all_terms (lines_of p)

-- constants have 32 bits, and there are sixteen variables
abbrev pub InRange : Expr → Type 0
InRange input = Unit {0}
InRange (constant n) = n < 2 ^ 32
InRange (variable v) = v < 16
InRange (binary o l r) = InRange l × InRange r

-- an expression has at most 15 terms
abbrev pub FitExpression : Expr → Type 0
FitExpression e = InRange e × (length (terms_of e) ≤ 15)

-- a second part that is left out is empty
abbrev pub FitSecond : Bool → Block → Type 0
FitSecond true q = Unit {0}
FitSecond false q = q ≡ done

-- a block in which d more may be open at once
abbrev pub FitBlock : ℕ → Block → Type 0
FitBlock d done = Unit {0}
FitBlock d (skip k) = FitBlock d k
FitBlock d (assign v e k) = (v ≤ 15) × FitExpression e × FitBlock d k
FitBlock d (output c e k) = (16 ≤ c) × (c ≤ 31) × FitExpression e × FitBlock d k
FitBlock d (branch w e p q k) = (0 < d) × FitExpression e × FitBlock (d - 1) p × FitBlock (d - 1) q × FitSecond w q × FitBlock d k
FitBlock d (repeat e p k) = (0 < d) × FitExpression e × FitBlock (d - 1) p × FitBlock d k

abbrev pub FitHandler : block.Handler → Type 0
FitHandler h = (h.channel ≤ 15) × FitBlock 8 h.body

abbrev pub is_listed : ℕ → List ℕ → Bool
is_listed c cs = list_any (λ d. c == d) cs

-- no handler is for a channel that is listed, or that an earlier one has
abbrev pub Once : List ℕ → Tree → Type 0
Once cs [] = Unit {0}
Once cs (h ∷ hs) = (is_listed h.channel cs ≡ false) × Once (h.channel ∷ cs) hs

-- what a program may hold
pub record Within (p : Tree) : Type 0 where
  pub handlers_fit : AllByRecursion FitHandler p
  pub one_handler_a_channel : Once [] p
  pub rows_are_few : length (lines_of p) ≤ row_limit
  pub terms_are_few : length (flat_terms p) ≤ term_limit
