-- Which lines some text leaves. Assumes nothing.
use Rattle.std.proofs.Common.{◌≡◌, ℕ, zero, suc, ◌-◌, ◌≤◌, Bool, true, cond, eqb, List, [], ◌∷◌, ◌++◌, length, take, drop, replicate, Some, None, Ok, Err, Option, sym, refl, ap, ◌∙◌, arith}
use Rattle.std.proofs.ByRecursion.{All-take}
use Rattle.std.proofs.lemmas.List.{take-append-drop, length-take-le, length-drop, length-append, length-replicate}
use Rattle.std.proofs.lemmas.Bool.{and_parts, and_from, eqb-true, lt-ltb, le-leb, eq-eqb, false≢true}
use Rattle.std.proofs.lemmas.List.Elements.{recursion_from_All}
use Rattle.std.specs.List.{All, AllByRecursion}
use Rattle.fault.specs.declared.Reason.TheVariants as reason
use Rattle.fault.specs.Faults.{unplaced}
use Rattle.switch.specs.declared.line.SwitchLine.{SwitchLine}
use Rattle.switch.specs.Reading.{sheet_limit, blank, reading, padded}
use Rattle.switch.specs.Writing.{Fit, Makes, written}
use Rattle.switch.proofs.Sheets.{reading_inverts_writing}
use Rattle.switch_machine.specs.Loading.{Leaves, loading}
use Rattle.switch_machine.specs.Sound.{is_made, is_fit, all_fit, is_none, is_blank, all_blank, is_left}

none_is : (o : Option ℕ) → is_none o ≡ true → o ≡ None
none_is None e = refl
none_is (Some channel) e = absurd (false≢true e)

zeros : (s c l h n : ℕ) (o : Option ℕ) (v : ℕ) → s ≡ 0 → c ≡ 0 → l ≡ 0 → h ≡ 0 → n ≡ 0 → o ≡ None → v ≡ 0
    → ◌≡◌ {A = SwitchLine} (record { state = s; channel = c; low = l; high = h; next = n; out = o; value = v }) blank
zeros s c l h n o v es ec el eh en eo ev = rw (es, ec, el, eh, en, eo, ev)

-- a line that passes the test is the blank line
blank_is : (l : SwitchLine) → is_blank l ≡ true → l ≡ blank
blank_is l e =
    let state = and_parts (eqb l.state 0) _ e in
    let channel = and_parts (eqb l.channel 0) _ state.1 in
    let low = and_parts (eqb l.low 0) _ channel.1 in
    let high = and_parts (eqb l.high 0) _ low.1 in
    let next = and_parts (eqb l.next 0) _ high.1 in
    let out = and_parts (is_none l.out) _ next.1 in
    zeros _ _ _ _ _ _ _ (eqb-true _ _ state.0) (eqb-true _ _ channel.0) (eqb-true _ _ low.0) (eqb-true _ _ high.0) (eqb-true _ _ next.0) (none_is l.out out.0) (eqb-true _ _ out.1)

blanks_are : (lines : List SwitchLine) → all_blank lines ≡ true → lines ≡ replicate (length lines) blank
blanks_are [] e = refl
blanks_are (l ∷ ls) e =
    let parts = and_parts (is_blank l) (all_blank ls) e in
    ap (λ x. x ∷ ls) (blank_is l parts.0) ∙ ap (λ xs. blank ∷ xs) (blanks_are ls parts.1)

pub left_by_some : (lines : List SwitchLine) → sheet_limit ≤ length lines → All Fit lines → is_left lines ≡ true → (text : List ℕ) × Leaves text lines
left_by_some lines long fit left =
    let ls = take sheet_limit lines in
    let count : length ls ≡ sheet_limit = length-take-le sheet_limit lines long in
    let tail : drop sheet_limit lines ≡ replicate (length lines - length ls) blank =
    blanks_are (drop sheet_limit lines) (and_parts (all_fit lines) _ left).1 ∙ ap (λ n. replicate n blank) (length-drop sheet_limit lines ∙ ap (λ n. length lines - n) (sym count)) in
    (written ls, (ls, (reading_inverts_writing (written ls) ls).1 (refl, (omega arith, All-take Fit sheet_limit lines (recursion_from_All Fit lines fit))), sym (take-append-drop sheet_limit lines) ∙ ap (λ xs. ls ++ xs) tail))

made_if : (out : Option ℕ) (value : ℕ) → Makes out value → is_made out value ≡ true
made_if None value e = eq-eqb value 0 e
made_if (Some channel) value e = and_from _ _ (le-leb 16 channel e.0) (le-leb channel 31 e.1)

fit_if : (l : SwitchLine) → Fit l → is_fit l ≡ true
fit_if l f = and_from _ _ (lt-ltb _ _ f.channel) (and_from _ _ (le-leb _ _ f.low) (made_if l.out l.value f.out))

all_fit_front : (ls : List SwitchLine) (n : ℕ) → AllByRecursion Fit ls → all_fit (ls ++ replicate n blank) ≡ true
all_fit_front [] zero f = refl
all_fit_front [] (suc n) f = all_fit_front [] n f
all_fit_front (l ∷ ls) n (here, more) = and_from _ _ (fit_if l here) (all_fit_front ls n more)

blank_tail : (k : ℕ) (ls : List SwitchLine) (n : ℕ) → length ls ≤ k → all_blank (drop k (ls ++ replicate n blank)) ≡ true
blank_tail zero [] zero h = refl
blank_tail zero [] (suc n) h = blank_tail zero [] n h
blank_tail zero (l ∷ ls) n h = absurd (omega arith)
blank_tail (suc k) [] zero h = refl
blank_tail (suc k) [] (suc n) h = blank_tail k [] n (omega arith)
blank_tail (suc k) (l ∷ ls) n h = blank_tail k ls n (omega arith)

pub leaves_left : (text : List ℕ) (lines : List SwitchLine) → Leaves text lines → is_left lines ≡ true
leaves_left text lines (ls, read, is) =
    let sheet = ((reading_inverts_writing text ls).0 read).1 in
    let n = length lines - length ls in
    rw is (and_from _ _ (all_fit_front ls n sheet.1) (blank_tail sheet_limit ls n sheet.0))

-- the value of a loading, by its test
loads : (lines : List SwitchLine) → sheet_limit ≤ length lines → (b : Bool) → is_left lines ≡ b → loading lines ≡ cond b (Ok tt) (Err (unplaced reason.Nest))
loads lines long b is = rw (le-leb sheet_limit (length lines) long, is)

-- what a text left is always taken
pub read_lines_load : (text : List ℕ) (ls : List SwitchLine) (n : ℕ) → reading text ≡ Ok ls → sheet_limit ≤ n → loading (padded n (Ok ls)) ≡ Ok tt
read_lines_load text ls n read room =
    let few = ((reading_inverts_writing text ls).0 read).1.0 in
    let long : length (padded n (Ok ls)) ≡ n = omega (arith, length-append ls (replicate (n - length ls) blank), length-replicate (n - length ls) blank) in
    let left = leaves_left text (padded n (Ok ls)) (ls, read, ap (λ k. ls ++ replicate (k - length ls) blank) (sym long)) in
    loads (padded n (Ok ls)) (omega arith) true left
