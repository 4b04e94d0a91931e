-- The table of classes keeps the rule, by one computed test. Assumes nothing.
use Rattle.std.proofs.Common.{◌≡◌, ℕ, zero, suc, ◌+◌, ◌<◌, Bool, true, cond, ◌&&◌, eqb, List, [], ◌∷◌, length, get_or, sym, refl, ap, ◌∙◌, subst, le_of_suc-le-suc, not-suc-le-zero, add-zero, add-suc, suc-add, zero-add}
use Rattle.std.proofs.lemmas.Bool.{eqb-true, and_parts}
use Rattle.text.specs.declared.classes.Class.{Class}
use Rattle.text.specs.declared.classes.Class.TheVariants.{Outside, Other, Digit, Letter, Operand, Operator}
use Rattle.text.specs.Classes.{class_of}

-- classes compared by numbers of theirs
abbrev code : Class → ℕ
code Outside = 0
code Other = 1
code Digit = 2
code Letter = 3
code Operand = 4
code Operator = 5

abbrev coded : ℕ → Class
coded n = cond (eqb n 0) Outside (cond (eqb n 1) Other (cond (eqb n 2) Digit (cond (eqb n 3) Letter (cond (eqb n 4) Operand Operator))))

coded_code : (x : Class) → coded (code x) ≡ x
coded_code Outside = refl
coded_code Other = refl
coded_code Digit = refl
coded_code Letter = refl
coded_code Operand = refl
coded_code Operator = refl

abbrev is_class_of : ℕ → Class → Bool
is_class_of b x = eqb (code x) (code (class_of b))

same_class : (b : ℕ) (x : Class) → is_class_of b x ≡ true → x ≡ class_of b
same_class b x e = sym (coded_code x) ∙ ap coded (eqb-true (code x) (code (class_of b)) e) ∙ coded_code (class_of b)

-- each entry is the class of its index
abbrev pub keeps_rule : ℕ → List Class → Bool
keeps_rule i [] = true
keeps_rule i (x ∷ xs) = is_class_of i x && keeps_rule (suc i) xs

entry_from : (xs : List Class) (i : ℕ) → keeps_rule i xs ≡ true → (k : ℕ) (d : Class) → k < length xs → get_or xs k d ≡ class_of (i + k)
entry_from [] i t k d h = absurd (not-suc-le-zero h)
entry_from (x ∷ xs) i t zero d h = same_class i x (and_parts (is_class_of i x) _ t).0 ∙ ap class_of (sym (add-zero i))
entry_from (x ∷ xs) i t (suc k) d h =
    entry_from xs (suc i) (and_parts (is_class_of i x) _ t).1 k d (le_of_suc-le-suc h) ∙ ap class_of (suc-add i k ∙ sym (add-suc i k))

pub entry_is_class : (xs : List Class) → keeps_rule 0 xs ≡ true → length xs ≡ 256 → (k : ℕ) (d : Class) → k < 256 → get_or xs k d ≡ class_of k
entry_is_class xs t e k d h = entry_from xs 0 t k d (subst (λ (n : ℕ). k < n) (sym e) h) ∙ ap class_of (zero-add k)
