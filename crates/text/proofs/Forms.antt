-- A field that has the form of its bytes is read as its bytes are. Assumes nothing.
use Rattle.std.proofs.Common.{◌≡◌, ℕ, ◌-◌, ◌≤◌, Bool, true, false, cond, eqb, List, [], ◌∷◌, length, get_or, take, drop, None, Option, sym, refl, ap, ◌∙◌, ⊎_elim, arith}
use Rattle.std.proofs.lemmas.List.{take_rest}
use Rattle.std.proofs.lemmas.Bool.{and_parts, cases_Bool, eqb-true}
use Rattle.std.proofs.lemmas.Bool.Decides.{nat_tests}
use Rattle.text.specs.declared.field.Field.{Field}
use Rattle.text.specs.declared.field.Field.TheVariants.{Letter, Number, Term, Operator, Other}
use Rattle.text.specs.Classes.{is_digit}
use Rattle.text.specs.Fields.{bytes_of, Form, letter, number, term, operator, other, form_in, Formed, number_of, is_dash, dash_in}
use Rattle.text.specs.Numbers.{at_least, digits_in, is_plain, number_in}

-- bytes by their first
pub alone : (bs : List ℕ) → length bs ≡ 1 → get_or bs 0 0 ∷ [] ≡ bs
alone [] e = absurd (omega arith)
alone (b ∷ []) e = refl
alone (b ∷ c ∷ bs) e = absurd (omega arith)

pub split_first : (bs : List ℕ) → 1 ≤ length bs → get_or bs 0 0 ∷ take (length bs - 1) (drop 1 bs) ≡ bs
split_first [] h = absurd (omega arith)
split_first (b ∷ bs) h = ap (λ l. b ∷ l) (take_rest (b ∷ bs) 1)

-- bytes of another form are no number and no dash
number_form : (b : ℕ) (bs : List ℕ) → is_digit b ≡ true → form_in (b ∷ bs) ≡ number
number_form b bs e = grind (arith, nat_tests)

none : (t : Bool) → cond {A = Option ℕ} t None None ≡ None
none true = refl
none false = refl

no_digit : (high b : ℕ) (bs : List ℕ) → is_digit b ≡ false → cond (is_plain (b ∷ bs)) (digits_in high 0 (b ∷ bs)) None ≡ None
no_digit high b bs e = simp e (none (is_plain (b ∷ bs)))

no_number : (low high : ℕ) (bs : List ℕ) (k : Form) → k ≡ form_in bs → (k ≡ number → ⊥) → None ≡ number_in low high bs
no_number low high [] k e h = refl
no_number low high (b ∷ bs) k e h =
    sym (ap (at_least low) (⊎_elim (λ t. absurd (h (e ∙ number_form b bs t))) (λ f. no_digit high b bs f) (cases_Bool (is_digit b))))

no_dash : (bs : List ℕ) (k : Form) → k ≡ form_in bs → (k ≡ operator → ⊥) → false ≡ dash_in bs
no_dash bs k e h =
    ⊎_elim
    (λ t. let a = and_parts (eqb (length bs) 1) (eqb (get_or bs 0 0) 45) t in
    let is : bs ≡ 45 ∷ [] = sym (alone bs (eqb-true (length bs) 1 a.0)) ∙ ap (λ b. b ∷ []) (eqb-true (get_or bs 0 0) 45 a.1) in
    absurd (h (e ∙ ap form_in is)))
    (λ f. sym f)
    (cases_Bool (dash_in bs))

pub number_is_by_bytes : (low high : ℕ) (f : Field) → Formed f → number_of low high f ≡ number_in low high (bytes_of f)
number_is_by_bytes low high (Letter c) e = no_number low high (c ∷ []) letter e (λ k. cc)
number_is_by_bytes low high (Number d) e = refl
number_is_by_bytes low high (Term c d) e = no_number low high (c ∷ d.now) term e (λ k. cc)
number_is_by_bytes low high (Operator c) e = no_number low high (c ∷ []) operator e (λ k. cc)
number_is_by_bytes low high (Other b) e = no_number low high b.now other e (λ k. cc)

pub dash_is_by_bytes : (f : Field) → Formed f → is_dash f ≡ dash_in (bytes_of f)
dash_is_by_bytes (Letter c) e = no_dash (c ∷ []) letter e (λ k. cc)
dash_is_by_bytes (Number d) e = no_dash d.now number e (λ k. cc)
dash_is_by_bytes (Term c d) e = no_dash (c ∷ d.now) term e (λ k. cc)
dash_is_by_bytes (Operator c) e = refl
dash_is_by_bytes (Other b) e = no_dash b.now other e (λ k. cc)
