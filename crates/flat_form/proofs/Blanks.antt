-- Blanks behind the filled part of a table. Assumes nothing.
use Rattle.std.proofs.Common.{◌≡◌, ℕ, zero, suc, ◌+◌, ◌-◌, ◌<◌, ◌≤◌, Bool, true, false, not, cond, eqb, List, [], ◌∷◌, ◌++◌, length, get_or, drop, replicate, refl, ap, ◌∙◌, arith, length-append}
use Rattle.std.proofs.lemmas.Bool.{and_parts, eqb-true, not-true, not-false}
use Rattle.program.specs.declared.rows.Kind.{Kind}
use Rattle.program.specs.declared.rows.Kind.TheVariants.{Skip, Handler, Assign, Output, If, While, Else, Close}
use Rattle.program.specs.declared.rows.Row.{Row}
use Rattle.program.specs.declared.rows.Term.{Term}
use Rattle.program.specs.declared.rows.Term.TheVariants.{Input, Constant, Variable, Operator}
use Rattle.program.specs.Building.{blank_row, blank_term}
use Rattle.flat_form.specs.Extents.{is_skip, is_blank, filled, extent, is_input, all_blank}

-- what stands behind the extent is blank
is_skip_says : (k : Kind) → is_skip k ≡ true → k ≡ Skip
is_skip_says Skip e = refl
is_skip_says (Handler c) e = cc
is_skip_says (Assign v) e = cc
is_skip_says (Output c) e = cc
is_skip_says If e = cc
is_skip_says While e = cc
is_skip_says Else e = cc
is_skip_says Close e = cc

blank_is : (r : Row) → is_blank r ≡ true → r ≡ blank_row
blank_is r e =
    let a = and_parts (is_skip r.kind) _ e in
    let b = and_parts (eqb r.first 0) _ a.1 in
    let c = and_parts (eqb r.count 0) _ b.1 in
    ap (λ k. record { kind = k; first = r.first; count = r.count; partner = r.partner }) (is_skip_says r.kind a.0)
    ∙ ap (λ n. record { kind = Skip; first = n; count = r.count; partner = r.partner }) (eqb-true r.first 0 b.0)
    ∙ ap (λ n. record { kind = Skip; first = 0; count = n; partner = r.partner }) (eqb-true r.count 0 c.0)
    ∙ ap (λ n. record { kind = Skip; first = 0; count = 0; partner = n }) (eqb-true r.partner 0 c.1)

-- all rows are blank, or one is the last that is not
pub all_are_blank : (rows : List Row) → ((k : ℕ) → k < length rows → not (is_blank (get_or rows k blank_row)) ≡ false) → extent rows ≡ 0
all_are_blank [] h = refl
all_are_blank (r ∷ rs) h = ap (filled (is_blank r)) (all_are_blank rs (λ k lt. h (suc k) (omega arith))) ∙ ap (λ b. cond b 0 1) (not-false (is_blank r) (h 0 (omega arith)))

pub last_is : (rows : List Row) (i : ℕ) → i < length rows → not (is_blank (get_or rows i blank_row)) ≡ true → ((k : ℕ) → i + 1 ≤ k → k < length rows → not (is_blank (get_or rows k blank_row)) ≡ false) → extent rows ≡ i + 1
last_is [] i lt e h = absurd (omega arith)
last_is (r ∷ rs) zero lt e h =
    ap (filled (is_blank r)) (all_are_blank rs (λ k lt. h (suc k) (omega arith) (omega arith))) ∙ ap (λ b. cond b 0 1) (not-true (is_blank r) e)
last_is (r ∷ rs) (suc i) lt e h =
    ap (filled (is_blank r)) (last_is rs i (omega arith) e (λ k le lt. h (suc k) (omega arith) (omega arith)) ∙ (let z : i + 1 ≡ suc i = omega arith in z)) ∙ (let y : suc (suc i) ≡ suc i + 1 = omega arith in y)

abbrev BlankBehind : ℕ → List Row → Type 0
BlankBehind n rows = (n ≤ length rows) × (drop n rows ≡ replicate (length rows - n) blank_row)

one_before : (r : Row) (rs : List Row) (b : Bool) (n : ℕ) → is_blank r ≡ b → BlankBehind n rs → BlankBehind (filled b n) (r ∷ rs)
one_before r rs true zero e h =
    let z : length rs - 0 ≡ length rs = omega arith in
    (omega arith, ap (λ x. x ∷ rs) (blank_is r e) ∙ ap (λ x. blank_row ∷ x) (h.1 ∙ ap (λ k. replicate k blank_row) z) ∙ ap (λ k. replicate k blank_row) (let y : suc (length rs) ≡ suc (length rs) - 0 = omega arith in y))
one_before r rs false zero e h = (omega arith, h.1 ∙ ap (λ k. replicate k blank_row) (let y : length rs - 0 ≡ suc (length rs) - 1 = omega arith in y))
one_before r rs b (suc n) e h = (let a = h.0 in omega arith, h.1 ∙ ap (λ k. replicate k blank_row) (let y : length rs - suc n ≡ suc (length rs) - suc (suc n) = omega arith in y))

pub blank_behind_extent : (rows : List Row) → (extent rows ≤ length rows) × (drop (extent rows) rows ≡ replicate (length rows - extent rows) blank_row)
blank_behind_extent [] = (omega arith, refl)
blank_behind_extent (r ∷ rs) = one_before r rs (is_blank r) (extent rs) refl (blank_behind_extent rs)

pub extent_padded : (rows : List Row) (k : ℕ) → extent (rows ++ replicate k blank_row) ≡ extent rows
extent_padded [] zero = refl
extent_padded [] (suc k) = ap (filled true) (extent_padded [] k)
extent_padded (r ∷ rs) k = ap (filled (is_blank r)) (extent_padded rs k)

filled_all : (b : Bool) (n : ℕ) → 0 < n → filled b n ≡ suc n
filled_all b zero h = absurd (omega arith)
filled_all b (suc n) h = refl

filled_close : (n : ℕ) → filled false n ≡ suc n
filled_close zero = refl
filled_close (suc n) = refl

pub closed_extent : (r : Row) (rs : List Row) → is_blank r ≡ false → extent rs ≡ length rs → extent (r ∷ rs) ≡ length (r ∷ rs)
closed_extent r rs e h = ap (λ b. filled b (extent rs)) e ∙ filled_close (extent rs) ∙ ap suc h

pub extent_before : (rows rs : List Row) → 0 < length rs → extent rs ≡ length rs → extent (rows ++ rs) ≡ length (rows ++ rs)
extent_before [] rs some h = h
extent_before (r ∷ rows) rs some h =
    let l = length-append rows rs in
    let e = extent_before rows rs some h in
    filled_all (is_blank r) (extent (rows ++ rs)) (omega arith) ∙ ap suc e

-- terms
input_is : (t : Term) → is_input t ≡ true → t ≡ Input
input_is Input e = refl
input_is (Constant n) e = cc
input_is (Variable v) e = cc
input_is (Operator o) e = cc

pub all_blank_is : (ts : List Term) → all_blank ts ≡ true → ts ≡ replicate (length ts) blank_term
all_blank_is [] e = refl
all_blank_is (t ∷ ts) e = let a = and_parts (is_input t) (all_blank ts) e in ap (λ x. x ∷ ts) (input_is t a.0) ∙ ap (λ x. Input ∷ x) (all_blank_is ts a.1)

pub blanks_are_blank : (k : ℕ) → all_blank (replicate k blank_term) ≡ true
blanks_are_blank zero = refl
blanks_are_blank (suc k) = blanks_are_blank k
