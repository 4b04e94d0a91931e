-- Tables hold one program, and a machine that was given them has it. Assumes nothing.
use Rattle.std.proofs.Common.{◌≡◌, ℕ, ◌-◌, ◌≤◌, true, List, length, take, replicate, Some, Ok, Err, Result, sym, refl, ap, ◌∙◌, arith}
use Rattle.std.proofs.lemmas.List.{take_at, length-append, length-replicate}
use Rattle.std.proofs.lemmas.Bool.{and_from, le-leb}
use Rattle.fault.specs.declared.Fault.{Fault}
use Rattle.language.specs.Block.{Tree}
use Rattle.program.specs.declared.rows.Row.{Row}
use Rattle.program.specs.declared.rows.Term.{Term}
use Rattle.program.specs.Building.{blank_row, blank_term, Tables}
use Rattle.program.specs.Laws.{flat, Hold}
use Rattle.program.specs.Reading.{padded, rows_left, terms_left, enough}
use Rattle.program.specs.Trees.{tree_of}
use Rattle.program.specs.Writing.{flat_rows, flat_terms, Within}
use Rattle.program.proofs.Programs.{flat_form_tells_the_program}
use Rattle.flat_form.proofs.Loads.{held_has_extents}
use Rattle.loader.specs.declared.loaded.Program.{Program}
use Rattle.loader.specs.Loading.{rows_of, terms_of, program_in, Accepts}

same_front : {X : Type 0} (blank : X) (xs ys l : List X) → l ≡ padded blank (length l) xs → l ≡ padded blank (length l) ys → length xs ≡ length ys → xs ≡ ys
same_front blank xs ys l h g same =
    sym (take_at xs (replicate (length l - length xs) blank) (length xs) refl)
    ∙ ap (take (length xs)) (sym h ∙ g)
    ∙ ap (λ n. take n (padded blank (length l) ys)) same
    ∙ take_at ys (replicate (length l - length ys) blank) (length ys) refl

same_pair : (a b : ℕ × ℕ) → Some a ≡ Some b → a ≡ b
same_pair a b e = cc

same_program : (p q : Tree) (rows : List Row) (terms : List Term) → Within p → Within q → Hold p rows terms → Hold q rows terms → p ≡ q
same_program p q rows terms v w g h =
    let sizes = same_pair (length (flat_rows p), length (flat_terms p)) (length (flat_rows q), length (flat_terms q)) (sym (held_has_extents p rows terms v g) ∙ held_has_extents q rows terms w h) in
    let same_rows = same_front blank_row (flat_rows p) (flat_rows q) rows g.0 h.0 (ap (λ (x : ℕ × ℕ). x.0) sizes) in
    let same_terms = same_front blank_term (flat_terms p) (flat_terms q) terms g.1 h.1 (ap (λ (x : ℕ × ℕ). x.1) sizes) in
    sym (flat_form_tells_the_program p v)
    ∙ ap (λ (rs : List Row). tree_of rs (flat_terms p)) same_rows
    ∙ ap (λ (ts : List Term). tree_of (flat_rows q) ts) same_terms
    ∙ flat_form_tells_the_program q w

pub loaded_is_held : (p : Tree) (rows : List Row) (terms : List Term) (r : Result (Unit {0}) Fault) (m : Program) → Accepts rows terms r m → enough rows terms ≡ true → Within p → Hold p rows terms → program_in m ≡ p
loaded_is_held p rows terms (Ok u) m a e w h = same_program (program_in m) p rows terms a.0 w a.1 h
loaded_is_held p rows terms (Err f) m a e w h = absurd (a e p w h)

pub loaded_tables : (p : Tree) (rows : List Row) (terms : List Term) (r : Result (Unit {0}) Fault) (m : Program) → Accepts rows terms r m → enough rows terms ≡ true → Within p → Hold p rows terms → (rows_of m ≡ flat_rows p) × (terms_of m ≡ flat_terms p)
loaded_tables p rows terms (Ok u) m a e w h =
    let is = same_program (program_in m) p rows terms a.0 w a.1 h in
    (a.2 ∙ ap flat_rows is, a.3 ∙ ap flat_terms is)
loaded_tables p rows terms (Err f) m a e w h = absurd (a e p w h)

long_enough : {X : Type 0} (n : ℕ) (blank : X) (xs : List X) → n ≤ length (padded blank n xs)
long_enough n blank xs = omega (arith, length-append xs (replicate (n - length xs) blank), length-replicate (n - length xs) blank)

-- what was read leaves as many rows and terms as were lent
pub enough_left : (p : Tree) (r : Result Tables Fault) (rows : List Row) (terms : List Term) → r ≡ Ok (flat p) → rows ≡ rows_left 128 r → terms ≡ terms_left 512 r → enough rows terms ≡ true
enough_left p r rows terms read is_rows is_terms =
    let front = ap (λ l. length l) (is_rows ∙ ap (rows_left 128) read) in
    let behind = ap (λ l. length l) (is_terms ∙ ap (terms_left 512) read) in
    let few = long_enough 128 blank_row (flat_rows p) in
    let many = long_enough 512 blank_term (flat_terms p) in
    and_from _ _ (le-leb 128 (length rows) (omega (arith, front, few))) (le-leb 512 (length terms) (omega (arith, behind, many)))
