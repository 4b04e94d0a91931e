-- Terms and expressions are read exactly as they are written. Assumes nothing.
use Rattle.std.proofs.Common.{◌≡◌, ℕ, suc, ◌+◌, ◌-◌, ◌<◌, ◌≤◌, true, cond, eqb, leb, List, [], ◌∷◌, ◌++◌, map, length, Some, None, Ok, decimal, Option, Result, sym, refl, ap, ◌∙◌, subst, append_assoc, append-nil, arith}
use Rattle.std.proofs.lemmas.Bool.{eqb-true, eqb-false, ne_eqb, leb-false}
use Rattle.std.proofs.lemmas.List.{length_push, nil_from_length}
use Rattle.std.specs.List.{AllByRecursion}
use Rattle.std.specs.Option.{option_map}
use Rattle.fault.specs.declared.Fault.{Fault}
use Rattle.fault.proofs.Then.{then_ok}
use Rattle.language.specs.Operators.{operator_of}
use Rattle.language.specs.declared.Operator as language
use Rattle.text.specs.Numbers.{number_in}
use Rattle.text.specs.Places.{field_at}
use Rattle.text.specs.Reading.{or_refused}
use Rattle.text.proofs.Decimals.{number_read_is_decimal, decimal_is_read}
use Rattle.language.specs.declared.Operator.TheVariants.{Plus, Minus, Times, Equal, Less, Round}
use Rattle.program.specs.declared.rows.Term.{Term}
use Rattle.program.specs.declared.rows.Term.TheVariants.{Input, Constant, Variable, Operator}
use Rattle.program.specs.Terms.{operator_byte, term_in, term_bytes, FitTerm, arity_of, expression_from, Whole, Expression}
use Rattle.program.proofs.Cases.{split, same_some}
use Rattle.program.proofs.Collecting.{turn, done}

abbrev Told : List ℕ → Term → Type 0
Told bs t = (bs ≡ term_bytes t) × FitTerm t

told_some : (bs : List ℕ) (s t : Term) → Some s ≡ Some t → Told bs s → Told bs t
told_some bs s t e h = let q : s ≡ t = cc in subst (λ (x : Term). Told bs x) q h

constant_back : (b : ℕ) (bs : List ℕ) (o : Option ℕ) (t : Term) → b ≡ 107 → number_in 0 4294967295 bs ≡ o → option_map Constant o ≡ Some t → Told (b ∷ bs) t
constant_back b bs None t e s h = cc
constant_back b bs (Some n) t e s h =
    let a = number_read_is_decimal 0 4294967295 bs n (omega arith) s in
    told_some (b ∷ bs) (Constant n) t h (ap (λ x. x ∷ bs) e ∙ ap (λ x. 107 ∷ x) a.0, omega (arith, a.2))

variable_back : (b : ℕ) (bs : List ℕ) (o : Option ℕ) (t : Term) → b ≡ 118 → number_in 0 15 bs ≡ o → option_map Variable o ≡ Some t → Told (b ∷ bs) t
variable_back b bs None t e s h = cc
variable_back b bs (Some n) t e s h =
    let a = number_read_is_decimal 0 15 bs n (omega arith) s in
    told_some (b ∷ bs) (Variable n) t h (ap (λ x. x ∷ bs) e ∙ ap (λ x. 118 ∷ x) a.0, omega (arith, a.2))

one : (bs : List ℕ) → eqb (suc (length bs)) 1 ≡ true → bs ≡ []
one bs e = nil_from_length bs (let l = eqb-true (suc (length bs)) 1 e in omega arith)

some_lacking : (m : ℕ) → (m ≡ 0 → ⊥) → 0 < m
some_lacking m h = omega arith

op_back : (c : ℕ) (o : language.Operator) → operator_of c ≡ Some o → c ≡ operator_byte o
op_back c o e =
    split (eqb c 43) _ _ (Some o) e (λ t h. eqb-true c 43 t ∙ ap operator_byte (same_some h)) (λ _ e.
    split (eqb c 45) _ _ (Some o) e (λ t h. eqb-true c 45 t ∙ ap operator_byte (same_some h)) (λ _ e.
    split (eqb c 42) _ _ (Some o) e (λ t h. eqb-true c 42 t ∙ ap operator_byte (same_some h)) (λ _ e.
    split (eqb c 61) _ _ (Some o) e (λ t h. eqb-true c 61 t ∙ ap operator_byte (same_some h)) (λ _ e.
    split (eqb c 60) _ _ (Some o) e (λ t h. eqb-true c 60 t ∙ ap operator_byte (same_some h)) (λ _ e.
    split (eqb c 114) _ _ (Some o) e (λ t h. eqb-true c 114 t ∙ ap operator_byte (same_some h)) (λ _ e.
    cc))))))

operator_back : (b : ℕ) (bs : List ℕ) (o : Option language.Operator) (t : Term) → bs ≡ [] → operator_of b ≡ o → option_map Operator o ≡ Some t → Told (b ∷ bs) t
operator_back b bs None t e s h = cc
operator_back b bs (Some o) t e s h = told_some (b ∷ bs) (Operator o) t h (ap (λ x. b ∷ x) e ∙ ap (λ x. x ∷ []) (op_back b o s), tt)

pub term_back : (bs : List ℕ) (t : Term) → term_in bs ≡ Some t → Told bs t
term_back [] t e = cc
term_back (b ∷ bs) t e =
    split (eqb (suc (length bs)) 0) _ _ (Some t) e (λ z h. cc) (λ _ e.
    split (eqb b 120) _ _ (Some t) e
    (λ x h. split (eqb (suc (length bs)) 1) _ _ (Some t) h (λ l h. told_some (b ∷ bs) Input t h (ap (λ y. y ∷ bs) (eqb-true b 120 x) ∙ ap (λ y. 120 ∷ y) (one bs l), tt)) (λ _ h. cc))
    (λ _ e.
    split (eqb b 107) _ _ (Some t) e (λ k h. constant_back b bs (number_in 0 4294967295 bs) t (eqb-true b 107 k) refl h) (λ _ e.
    split (eqb b 118) _ _ (Some t) e (λ v h. variable_back b bs (number_in 0 15 bs) t (eqb-true b 118 v) refl h) (λ _ e.
    split (eqb (suc (length bs)) 1) _ _ (Some t) e (λ l h. operator_back b bs (operator_of b) t (one bs l) refl h) (λ _ h. cc)))))

op_forth : (o : language.Operator) → term_in (operator_byte o ∷ []) ≡ Some (Operator o)
op_forth Plus = refl
op_forth Minus = refl
op_forth Times = refl
op_forth Equal = refl
op_forth Less = refl
op_forth Round = refl

filled : (bs : List ℕ) (x y : Option Term) → cond (eqb (suc (length bs)) 0) x y ≡ y
filled bs x y = ap (λ b. cond b x y) (ne_eqb (suc (length bs)) 0 (λ z. omega arith))

pub term_forth : (t : Term) → FitTerm t → term_in (term_bytes t) ≡ Some t
term_forth Input f = refl
term_forth (Constant n) f = filled (decimal n) None (option_map Constant (number_in 0 4294967295 (decimal n))) ∙ ap (option_map Constant) (decimal_is_read 0 4294967295 n (omega arith) (omega arith) (omega arith))
term_forth (Variable n) f = filled (decimal n) None (option_map Variable (number_in 0 15 (decimal n))) ∙ ap (option_map Variable) (decimal_is_read 0 15 n (omega arith) (omega arith) (omega arith))
term_forth (Operator o) f = op_forth o

fault_none : (n k : ℕ) (o : Option Term) (v : Term) → or_refused (field_at n k) o ≡ Ok v → o ≡ Some v
fault_none n k None v e = cc
fault_none n k (Some x) v e = cc

-- expressions
abbrev Out : Type 0
Out = Result (List Term × List (List ℕ)) Fault

abbrev Rest : ℕ → List Term → List (List ℕ) → List (List ℕ) → List Term → List Term → Type 0
Rest lacking acc fs gs us ts = (fs ≡ map term_bytes ts ++ gs) × (acc ++ ts ≡ us) × Whole lacking ts × AllByRecursion FitTerm ts

abbrev Back : ℕ → List Term → List (List ℕ) → List (List ℕ) → List Term → Type 0
Back lacking acc fs gs us = ((ts : List Term) × Rest lacking acc fs gs us ts) × (length us ≤ 15)

ok_first : (acc us : List Term) (fs gs : List (List ℕ)) → ◌≡◌ {A = Out} (Ok (acc, fs)) (Ok (us, gs)) → (acc ≡ us) × (fs ≡ gs)
ok_first acc us fs gs e = let q : ◌≡◌ {A = List Term × List (List ℕ)} (acc, fs) (us, gs) = cc in (ap (λ (p : List Term × List (List ℕ)). p.0) q, ap (λ (p : List Term × List (List ℕ)). p.1) q)

at_end : (lacking : ℕ) (acc : List Term) (fs gs : List (List ℕ)) (us : List Term) → length acc ≤ 15 → lacking ≡ 0 → ◌≡◌ {A = Out} (Ok (acc, fs)) (Ok (us, gs)) → Back lacking acc fs gs us
at_end lacking acc fs gs us h z e =
    let q = ok_first acc us fs gs e in
    (([], (q.1, append-nil acc ∙ q.0, z, tt)), subst (λ (x : List Term). length x ≤ 15) q.0 h)

expr_back : (n k lacking : ℕ) (acc : List Term) (fs gs : List (List ℕ)) (us : List Term) → length acc ≤ 15 → expression_from n k lacking acc fs ≡ Ok (us, gs) → Back lacking acc fs gs us
expr_back n k lacking acc [] gs us h e =
    split (eqb lacking 0) _ _ (Ok (us, gs)) e (λ z q. at_end lacking acc [] gs us h (eqb-true lacking 0 z) q) (λ _ q. cc)
expr_back n k lacking acc (f ∷ fs) gs us h e =
    split (eqb lacking 0) _ _ (Ok (us, gs)) e (λ z q. at_end lacking acc (f ∷ fs) gs us h (eqb-true lacking 0 z) q) (λ nz e.
    split (leb 15 (length acc)) _ _ (Ok (us, gs)) e (λ _ q. cc) (λ lt e.
    let a = then_ok (or_refused (field_at n k) (term_in f)) (λ t. expression_from n (k + 1) (lacking - 1 + arity_of t) (acc ++ t ∷ []) fs) (us, gs) e in
    let t = a.0 in
    let b = term_back f t (fault_none n k (term_in f) t a.1) in
    let room = leb-false 15 (length acc) lt in
    let long = length_push acc t in
    let r = expr_back n (k + 1) (lacking - 1 + arity_of t) (acc ++ t ∷ []) fs gs us (omega arith) a.2 in
    let ts = r.0.0 in
    let pos : 0 < lacking = let ne = eqb-false lacking 0 nz in some_lacking lacking ne in (
      (
        t ∷ ts,
        (
          ap (λ x. x ∷ fs) b.0 ∙ ap (λ x. term_bytes t ∷ x) r.0.1.0,
          sym (append_assoc acc (t ∷ []) ts) ∙ r.0.1.1,
          (pos, r.0.1.2),
          (b.1, r.0.1.3),
        ),
      ),
      r.1,
    )))

expr_forth : (n k lacking : ℕ) (acc ts : List Term) (gs : List (List ℕ)) → Whole lacking ts → AllByRecursion FitTerm ts → length acc + length ts ≤ 15 → expression_from n k lacking acc (map term_bytes ts ++ gs) ≡ Ok (acc ++ ts, gs)
expr_forth n k lacking acc [] gs w f h = ap (λ l. expression_from n k l acc gs) w ∙ done n k acc gs ∙ ap (λ x. Ok (x, gs)) (sym (append-nil acc))
expr_forth n k lacking acc (t ∷ ts) gs w f h =
    let long = length_push acc t in
    turn n k lacking acc t (term_bytes t ∷ (map term_bytes ts ++ gs)) w.0 (omega arith) (term_forth t f.0)
    ∙ expr_forth n (k + 1) (lacking - 1 + arity_of t) (acc ++ t ∷ []) ts gs w.1 f.1 (omega arith)
    ∙ ap (λ x. Ok (x, gs)) (append_assoc acc (t ∷ []) ts)

pub expression_read_is_written : (n k : ℕ) (fs gs : List (List ℕ)) (ts : List Term) → expression_from n k 1 [] fs ≡ Ok (ts, gs) → (fs ≡ map term_bytes ts ++ gs) × Expression ts
expression_read_is_written n k fs gs ts e =
    let r = expr_back n k 1 [] fs gs ts (omega arith) e in
    let q : r.0.0 ≡ ts = r.0.1.1 in
    subst (λ (x : List Term). (fs ≡ map term_bytes x ++ gs) × (Whole 1 x × (length x ≤ 15) × AllByRecursion FitTerm x)) q
    (r.0.1.0, (r.0.1.2, subst (λ (x : List Term). length x ≤ 15) (sym q) r.1, r.0.1.3))

pub written_expression_is_read : (n k : ℕ) (ts : List Term) (gs : List (List ℕ)) → Expression ts → expression_from n k 1 [] (map term_bytes ts ++ gs) ≡ Ok (ts, gs)
written_expression_is_read n k ts gs h = expr_forth n k 1 [] ts gs h.0 h.2 (omega (arith, h.1))
