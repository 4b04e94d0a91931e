-- Terms spell an expression exactly as it is written. Assumes nothing.
use Rattle.std.proofs.Common.{◌≡◌, ℕ, ◌+◌, ◌-◌, ◌<◌, ◌≤◌, List, [], ◌∷◌, ◌++◌, length, sym, refl, ap, ◌∙◌, subst, append_assoc, append-nil, arith}
use Rattle.std.specs.List.{AllByRecursion}
use Rattle.language.specs.declared.Operator as language
use Rattle.language.specs.Expression.{Expr, input, constant, variable, binary}
use Rattle.program.specs.declared.rows.Term.{Term}
use Rattle.program.specs.declared.rows.Term.TheVariants.{Input, Constant, Variable, Operator}
use Rattle.program.specs.Terms.{FitTerm, Whole, Expression}
use Rattle.program.specs.Trees.{operate, expressions, first_expression, expression_of}
use Rattle.program.specs.Writing.{terms_of, InRange, FitExpression}

pub spells : (e : Expr) (ts : List Term) → expressions (terms_of e ++ ts) ≡ e ∷ expressions ts
spells input ts = refl
spells (constant n) ts = refl
spells (variable v) ts = refl
spells (binary o l r) ts =
    ap (λ xs. operate o (expressions xs)) (append_assoc (terms_of l) (terms_of r) ts)
    ∙ ap (operate o) (spells l (terms_of r ++ ts) ∙ ap (λ es. l ∷ es) (spells r ts))

pub expression_is_spelled : (e : Expr) → expressions (terms_of e) ≡ e ∷ []
expression_is_spelled e = ap expressions (sym (append-nil (terms_of e))) ∙ spells e []

pub expression_of_its_terms : (e : Expr) → expression_of (terms_of e) ≡ e
expression_of_its_terms e = ap first_expression (expression_is_spelled e)

-- what is written of an expression is one
whole_leaf : (n : ℕ) (ts : List Term) → Whole n ts → Whole (n + 1 - 1 + 0) ts
whole_leaf n ts w = let z : n ≡ n + 1 - 1 + 0 = omega arith in subst (λ (m : ℕ). Whole m ts) z w

whole_more : (e : Expr) (n : ℕ) (ts : List Term) → Whole n ts → Whole (n + 1) (terms_of e ++ ts)
whole_more input n ts w = (omega arith, whole_leaf n ts w)
whole_more (constant k) n ts w = (omega arith, whole_leaf n ts w)
whole_more (variable v) n ts w = (omega arith, whole_leaf n ts w)
whole_more (binary o l r) n ts w =
    let z : n + 1 + 1 ≡ n + 1 - 1 + 2 = omega arith in
    let h = whole_more l (n + 1) (terms_of r ++ ts) (whole_more r n ts w) in
    (omega arith, subst (λ (m : ℕ). Whole m ((terms_of l ++ terms_of r) ++ ts)) z (subst (λ (xs : List Term). Whole (n + 1 + 1) xs) (sym (append_assoc (terms_of l) (terms_of r) ts)) h))

pub all_append : {X : Type 0} (P : X → Type 0) (xs ys : List X) → AllByRecursion P xs → AllByRecursion P ys → AllByRecursion P (xs ++ ys)
all_append P [] ys f g = g
all_append P (x ∷ xs) ys f g = (f.0, all_append P xs ys f.1 g)

terms_fit : (e : Expr) → InRange e → AllByRecursion FitTerm (terms_of e)
terms_fit input f = (tt, tt)
terms_fit (constant n) f = (f, tt)
terms_fit (variable v) f = (f, tt)
terms_fit (binary o l r) f = (tt, all_append FitTerm (terms_of l) (terms_of r) (terms_fit l f.0) (terms_fit r f.1))

pub fit_expression_is_one : (e : Expr) → FitExpression e → Expression (terms_of e)
fit_expression_is_one e f =
    let w : Whole 1 (terms_of e) = subst (λ (xs : List Term). Whole 1 xs) (append-nil (terms_of e)) (whole_more e 0 [] refl) in
    (w, f.1, terms_fit e f.0)

-- terms that make so many parts spell so many expressions
abbrev spelled : List Expr → List Term
spelled [] = []
spelled (e ∷ es) = terms_of e ++ spelled es

abbrev Spells : ℕ → List Term → List Expr → Type 0
Spells n ts es = (length es ≡ n) × (spelled es ≡ ts) × AllByRecursion InRange es

operated : (o : language.Operator) (n : ℕ) (ts : List Term) (es : List Expr) → 0 < n → Spells (n - 1 + 2) ts es → Spells n (Operator o ∷ ts) (operate o es)
operated o n ts [] pos h = let l = h.0 in absurd (omega arith)
operated o n ts (a ∷ []) pos h = let l = h.0 in absurd (omega arith)
operated o n ts (a ∷ b ∷ es) pos h = (
  let l = h.0 in omega arith,
  ap (λ xs. Operator o ∷ xs) (append_assoc (terms_of a) (terms_of b) (spelled es) ∙ h.1),
  ((h.2.0, h.2.1.0), h.2.1.1),
)

leaf : (n : ℕ) (t : Term) (e : Expr) (ts : List Term) (es : List Expr) → terms_of e ≡ t ∷ [] → InRange e → 0 < n → Spells (n - 1 + 0) ts es → Spells n (t ∷ ts) (e ∷ es)
leaf n t e ts es one fit pos h = (let l = h.0 in omega arith, ap (λ xs. xs ++ spelled es) one ∙ ap (λ xs. t ∷ xs) h.1, (fit, h.2))

whole_spells : (n : ℕ) (ts : List Term) → Whole n ts → AllByRecursion FitTerm ts → Spells n ts (expressions ts)
whole_spells n [] w f = (sym w, refl, tt)
whole_spells n (Input ∷ ts) w f = leaf n Input input ts (expressions ts) refl tt w.0 (whole_spells (n - 1 + 0) ts w.1 f.1)
whole_spells n (Constant k ∷ ts) w f = leaf n (Constant k) (constant k) ts (expressions ts) refl f.0 w.0 (whole_spells (n - 1 + 0) ts w.1 f.1)
whole_spells n (Variable v ∷ ts) w f = leaf n (Variable v) (variable v) ts (expressions ts) refl f.0 w.0 (whole_spells (n - 1 + 0) ts w.1 f.1)
whole_spells n (Operator o ∷ ts) w f = operated o n ts (expressions ts) w.0 (whole_spells (n - 1 + 2) ts w.1 f.1)

only : (ts : List Term) (es : List Expr) → Spells 1 ts es → (es ≡ first_expression es ∷ []) × (terms_of (first_expression es) ≡ ts) × InRange (first_expression es)
only ts [] h = let l = h.0 in absurd (omega arith)
only ts (e ∷ []) h = (refl, sym (append-nil (terms_of e)) ∙ h.1, h.2.0)
only ts (a ∷ b ∷ es) h = let l = h.0 in absurd (omega arith)

-- the terms of an expression spell it
pub one_expression_is_spelled : (ts : List Term) → Expression ts → (expressions ts ≡ expression_of ts ∷ []) × (terms_of (expression_of ts) ≡ ts) × FitExpression (expression_of ts)
one_expression_is_spelled ts h =
    let o = only ts (expressions ts) (whole_spells 1 ts h.0 h.2) in
    (o.0, o.1, (o.2, subst (λ (xs : List Term). length xs ≤ 15) (sym o.1) h.1))
