-- What is written of fields and lines is printable, short, and holds no mark. Assumes nothing.
use Rattle.std.proofs.Common.{◌≡◌, ℕ, ◌+◌, ◌*◌, ◌≤◌, Bool, true, false, eqb, leb, List, [], ◌∷◌, ◌++◌, map, length, refl, ◌∙◌, subst, ⊎_elim, mul-suc, arith, length-append}
use Rattle.std.proofs.lemmas.List.Folds.{list_all-append}
use Rattle.std.proofs.lemmas.Bool.{and_parts, and_from, both_ways, cases_Bool, eqb-true, le-leb}
use Rattle.std.proofs.lemmas.Bool.Decides.{nat_tests}
use Rattle.std.proofs.ByRecursion.{All-weaker, All-map}
use Rattle.std.proofs.lemmas.List.{length-map}
use Rattle.std.specs.List.{AllByRecursion}
use Rattle.text.specs.Classes.{is_digit, is_printable}
use Rattle.text.specs.Lines.{all_printable, is_clean}
use Rattle.text.specs.Numbers.{all_digits}
use Rattle.text.specs.Pieces.{marked}
use Rattle.text.specs.Texts.{fed}
use Rattle.text.proofs.Cutting.{Free}

-- a byte that passes a test is not one that does not
other_byte : (test : ℕ → Bool) (b m : ℕ) → test b ≡ true → test m ≡ false → eqb b m ≡ false
other_byte test b m e none =
    ⊎_elim (λ t. absurd (both_ways (test m) none (subst (λ (x : ℕ). test x ≡ true) (eqb-true b m t) e))) (λ f. f) (cases_Bool (eqb b m))

digit_is_printable : (b : ℕ) → is_digit b ≡ true → is_printable b ≡ true
digit_is_printable b e = grind (arith, nat_tests)

pub digits_are_printable : (bs : List ℕ) → all_digits bs ≡ true → all_printable bs ≡ true
digits_are_printable [] e = refl
digits_are_printable (b ∷ bs) e =
    let a = and_parts (is_digit b) (all_digits bs) e in
    and_from (is_printable b) (all_printable bs) (digit_is_printable b a.0) (digits_are_printable bs a.1)

pub digits_are_free : (m : ℕ) → is_digit m ≡ false → (bs : List ℕ) → all_digits bs ≡ true → Free m bs
digits_are_free m none [] e = tt
digits_are_free m none (b ∷ bs) e =
    let a = and_parts (is_digit b) (all_digits bs) e in
    (other_byte is_digit b m a.0 none, digits_are_free m none bs a.1)

pub printable_append : (xs ys : List ℕ) → all_printable xs ≡ true → all_printable ys ≡ true → all_printable (xs ++ ys) ≡ true
printable_append xs ys e f = list_all-append is_printable xs ys ∙ and_from (all_printable xs) (all_printable ys) e f

pub printable_marked : (m : ℕ) (ps : List (List ℕ)) → is_printable m ≡ true → AllByRecursion (λ p. all_printable p ≡ true) ps → all_printable (marked m ps) ≡ true
printable_marked m [] e h = refl
printable_marked m (p ∷ ps) e h =
    and_from (is_printable m) (all_printable (p ++ marked m ps)) e (printable_append p (marked m ps) h.0 (printable_marked m ps e h.1))

pub length_marked : (m : ℕ) (p : List ℕ) (ps : List (List ℕ)) → length (marked m (p ∷ ps)) ≡ length p + length (marked m ps) + 1
length_marked m p ps = let e = length-append p (marked m ps) in omega arith

pub short_printable_is_clean : (bs : List ℕ) → length bs ≤ 80 → all_printable bs ≡ true → is_clean bs ≡ true
short_printable_is_clean bs h e = and_from (leb (length bs) 80) (all_printable bs) (le-leb (length bs) 80 h) e

pub length_fed : (k : ℕ) (ps : List (List ℕ)) → AllByRecursion (λ p. length p ≤ k) ps → length (fed ps) ≤ (k + 1) * length ps
length_fed k [] h = omega arith
length_fed k (p ∷ ps) h =
    let e = length-append p (10 ∷ fed ps) in
    let r = length_fed k ps h.1 in
    let a = h.0 in
    let m = mul-suc (k + 1) (length ps) in
    omega arith

pub fed_lines_are_short : {A : Type 0} (bytes : A → List ℕ) (Fit : A → Type 0) → ((a : A) → Fit a → length (bytes a) ≤ 80) → (xs : List A) → AllByRecursion Fit xs → length (fed (map bytes xs)) ≤ 81 * length xs
fed_lines_are_short bytes Fit short xs f =
    let a = length_fed 80 (map bytes xs) (All-map _ bytes xs (All-weaker Fit _ short xs f)) in
    let b = length-map xs bytes in
    omega arith

pub printable_is_free : (bs : List ℕ) → all_printable bs ≡ true → Free 10 bs
printable_is_free [] e = tt
printable_is_free (b ∷ bs) e = let a = and_parts (is_printable b) (all_printable bs) e in (other_byte is_printable b 10 a.0 refl, printable_is_free bs a.1)

pub clean_is_free : (bs : List ℕ) → is_clean bs ≡ true → Free 10 bs
clean_is_free bs e = printable_is_free bs (and_parts (leb (length bs) 80) (all_printable bs) e).1
