-- A line is read exactly as it is written. Assumes nothing.
use Rattle.std.proofs.Common.{◌≡◌, ℕ, ◌+◌, ◌^◌, ◌<◌, ◌≤◌, true, eqb, List, [], ◌∷◌, ◌++◌, map, length, Ok, decimal, Result, sym, refl, ap, ◌∙◌, subst, append-nil, arith}
use Rattle.std.proofs.lemmas.Bool.{eqb-true}
use Rattle.std.specs.List.{AllByRecursion}
use Rattle.fault.specs.declared.Fault.{Fault}
use Rattle.fault.specs.Faults.{then}
use Rattle.fault.proofs.Then.{then_ok, ok_then}
use Rattle.language.specs.declared.Operator as language
use Rattle.language.specs.declared.Operator.TheVariants.{Plus, Minus, Times, Equal, Less, Round}
use Rattle.text.specs.Lines.{all_printable}
use Rattle.text.specs.Pieces.{pieces, joined}
use Rattle.text.specs.Reading.{tail_of, read_letter, read_number, read_end}
use Rattle.text.proofs.Cutting.{Free, pieces_rejoin, joined_pieces_part}
use Rattle.text.proofs.Decimals.{decimal_is_digits}
use Rattle.text.proofs.Printing.{digits_are_free, digits_are_printable}
use Rattle.text.proofs.Taking.{letter_read_is_first, number_read_is_first, first_decimal_is_read, end_read_is_no_field}
use Rattle.program.specs.declared.rows.Kind.{Kind}
use Rattle.program.specs.declared.rows.Kind.TheVariants.{Skip, Handler, Assign, Output, If, While, Else, Close}
use Rattle.program.specs.declared.rows.Term.{Term}
use Rattle.program.specs.declared.rows.Term.TheVariants.{Input, Constant, Variable, Operator}
use Rattle.program.specs.Terms.{expression_from, term_bytes, FitTerm, Expression}
use Rattle.program.specs.Lines.{Line, whole_from, alone, tested, aimed_from, aimed, handler, by_letter, line_in, parse, letter_byte, target_of, fields_of, line_bytes, FitKind, FitLine}
use Rattle.program.proofs.Cases.{split}
use Rattle.program.proofs.Expressions.{expression_read_is_written, written_expression_is_read}

ok_is : (x y : List Term) → ◌≡◌ {A = Result (List Term) Fault} (Ok x) (Ok y) → x ≡ y
ok_is x y e = cc

line_eq : (x y : Line) → ◌≡◌ {A = Result Line Fault} (Ok x) (Ok y) → x ≡ y
line_eq x y e = cc

-- an expression to the end
whole_back : (n k : ℕ) (fs : List (List ℕ)) (ts : List Term) → whole_from n k fs ≡ Ok ts → (fs ≡ map term_bytes ts) × Expression ts
whole_back n k fs ts e =
    let x = then_ok (expression_from n k 1 [] fs) (λ y. then (read_end n (k + length y.0) y.1) (λ _. Ok y.0)) ts e in
    let us = x.0.0 in
    let gs = x.0.1 in
    let y = then_ok (read_end n (k + length us) gs) (λ _. Ok us) ts x.2 in
    let q : us ≡ ts = ok_is us ts y.2 in
    let a = expression_read_is_written n k fs gs us x.1 in
    subst (λ (z : List Term). (fs ≡ map term_bytes z) × Expression z) q
    (a.0 ∙ ap (λ z. map term_bytes us ++ z) (end_read_is_no_field n (k + length us) gs y.0 y.1) ∙ append-nil (map term_bytes us), a.1)

whole_forth : (n k : ℕ) (ts : List Term) → Expression ts → whole_from n k (map term_bytes ts) ≡ Ok ts
whole_forth n k ts h = ok_then _ (Ok ts) (ap (expression_from n k 1 []) (sym (append-nil (map term_bytes ts))) ∙ written_expression_is_read n k ts [] h) refl

-- each letter
abbrev Good : List (List ℕ) → Line → Type 0
Good fs l = (fs ≡ target_of l.0 ++ map term_bytes l.1) × FitLine l

line_is : (k l : Line) (fs : List (List ℕ)) → ◌≡◌ {A = Result Line Fault} (Ok k) (Ok l) → Good fs k → Good fs l
line_is k l fs e g = let q : k ≡ l = cc in subst (λ (x : Line). Good fs x) q g

alone_back : (n : ℕ) (kind : Kind) (fs : List (List ℕ)) (l : Line) → alone n kind fs ≡ Ok l → (fs ≡ []) × ((kind, []) ≡ l)
alone_back n kind fs l e =
    let x = then_ok (read_end n 2 fs) (λ _. Ok (kind, [])) l e in
    (end_read_is_no_field n 2 fs x.0 x.1, line_eq (kind, []) l x.2)

pair_eq : (x y : ℕ × List Term) → ◌≡◌ {A = Result (ℕ × List Term) Fault} (Ok x) (Ok y) → x ≡ y
pair_eq x y e = cc

tested_back : (n : ℕ) (kind : Kind) (fs : List (List ℕ)) (l : Line) → tested n kind fs ≡ Ok l → (ts : List Term) × (fs ≡ map term_bytes ts) × Expression ts × ((kind, ts) ≡ l)
tested_back n kind fs l e =
    let x = then_ok (whole_from n 2 fs) (λ ts. Ok (kind, ts)) l e in
    let w = whole_back n 2 fs x.0 x.1 in
    (x.0, w.0, w.1, line_eq (kind, x.0) l x.2)

aimed_back : (n : ℕ) (kind : ℕ → Kind) (low high : ℕ) (fs : List (List ℕ)) (l : Line) → high ≤ 31 → aimed n kind low high fs ≡ Ok l → (v : ℕ) × (ts : List Term) × (fs ≡ decimal v ∷ map term_bytes ts) × (low ≤ v) × (v ≤ high) × Expression ts × ((kind v, ts) ≡ l)
aimed_back n kind low high fs l small e =
    let x = then_ok (aimed_from n low high fs) (λ a. Ok (kind a.0, a.1)) l e in
    let y = then_ok (read_number n 2 low high fs) (λ v. then (whole_from n 3 (tail_of fs)) (λ ts. Ok (v, ts))) x.0 x.1 in
    let v = y.0 in
    let z = then_ok (whole_from n 3 (tail_of fs)) (λ ts. Ok (v, ts)) x.0 y.2 in
    let ts = z.0 in
    let a = number_read_is_first n 2 low high fs v (omega arith) y.1 in
    let w = whole_back n 3 (tail_of fs) ts z.1 in
    let q : (v, ts) ≡ x.0 = pair_eq (v, ts) x.0 z.2 in
    (v, ts, a.0 ∙ ap (λ r. decimal v ∷ r) w.0, a.1, a.2, w.1, ap (λ (p : ℕ × List Term). (kind p.0, p.1)) q ∙ line_eq (kind x.0.0, x.0.1) l x.2)

handler_back : (n : ℕ) (fs : List (List ℕ)) (l : Line) → handler n fs ≡ Ok l → (v : ℕ) × (fs ≡ decimal v ∷ []) × (v ≤ 15) × ((Handler v, []) ≡ l)
handler_back n fs l e =
    let x = then_ok (read_number n 2 0 15 fs) (λ c. then (read_end n 3 (tail_of fs)) (λ _. Ok (Handler c, []))) l e in
    let y = then_ok (read_end n 3 (tail_of fs)) (λ _. Ok (Handler x.0, [])) l x.2 in
    let a = number_read_is_first n 2 0 15 fs x.0 (omega arith) x.1 in
    (x.0, a.0 ∙ ap (λ r. decimal x.0 ∷ r) (end_read_is_no_field n 3 (tail_of fs) y.0 y.1), a.2, line_eq (Handler x.0, []) l y.2)

abbrev Told : ℕ → List (List ℕ) → Line → Type 0
Told c fs l = ((c ∷ []) ∷ fs ≡ fields_of l) × FitLine l

told : (c : ℕ) (fs : List (List ℕ)) (k l : Line) → c ≡ letter_byte k.0 → k ≡ l → fs ≡ target_of k.0 ++ map term_bytes k.1 → FitLine k → Told c fs l
told c fs k l e q g f = subst (λ (x : Line). Told c fs x) q (ap (λ x. (x ∷ []) ∷ fs) e ∙ ap (λ x. (letter_byte k.0 ∷ []) ∷ x) g, f)

by_alone : (n c : ℕ) (kind : Kind) (fs : List (List ℕ)) (l : Line) → c ≡ letter_byte kind → target_of kind ≡ [] → FitKind kind [] → alone n kind fs ≡ Ok l → Told c fs l
by_alone n c kind fs l e a f h = let x = alone_back n kind fs l h in told c fs (kind, []) l e x.1 (x.0 ∙ ap (λ y. y ++ []) (sym a)) f

letters_back : (n c : ℕ) (fs : List (List ℕ)) (l : Line) → by_letter n c fs ≡ Ok l → Told c fs l
letters_back n c fs l e =
    split (eqb c 72) _ _ (Ok l) e (λ t h. let x = handler_back n fs l h in told c fs (Handler x.0, []) l (eqb-true c 72 t) x.3 x.1 (x.2, refl)) (λ _ e.
    split (eqb c 65) _ _ (Ok l) e (λ t h. let x = aimed_back n Assign 0 15 fs l (omega arith) h in told c fs (Assign x.0, x.1) l (eqb-true c 65 t) x.6 x.2 (x.4, x.5)) (λ _ e.
    split (eqb c 79) _ _ (Ok l) e (λ t h. let x = aimed_back n Output 16 31 fs l (omega arith) h in told c fs (Output x.0, x.1) l (eqb-true c 79 t) x.6 x.2 (x.3, x.4, x.5)) (λ _ e.
    split (eqb c 83) _ _ (Ok l) e (λ t h. by_alone n c Skip fs l (eqb-true c 83 t) refl refl h) (λ _ e.
    split (eqb c 73) _ _ (Ok l) e (λ t h. let x = tested_back n If fs l h in told c fs (If, x.0) l (eqb-true c 73 t) x.3 x.1 x.2) (λ _ e.
    split (eqb c 87) _ _ (Ok l) e (λ t h. let x = tested_back n While fs l h in told c fs (While, x.0) l (eqb-true c 87 t) x.3 x.1 x.2) (λ _ e.
    split (eqb c 69) _ _ (Ok l) e (λ t h. by_alone n c Else fs l (eqb-true c 69 t) refl refl h) (λ _ e.
    split (eqb c 88) _ _ (Ok l) e (λ t h. by_alone n c Close fs l (eqb-true c 88 t) refl refl h) (λ _ h.
    cc))))))))

line_back : (n : ℕ) (fs : List (List ℕ)) (l : Line) → line_in n fs ≡ Ok l → (fs ≡ fields_of l) × FitLine l
line_back n fs l e =
    let x = then_ok (read_letter n fs) (λ c. by_letter n c (tail_of fs)) l e in
    let h = letters_back n x.0 (tail_of fs) l x.2 in
    (letter_read_is_first n fs x.0 x.1 ∙ h.0, h.1)

line_forth : (n : ℕ) (k : Kind) (ts : List Term) → FitKind k ts → line_in n (fields_of (k, ts)) ≡ Ok (k, ts)
line_forth n Skip ts f = ap (λ x. line_in n (fields_of (Skip, x))) f ∙ ap (λ x. Ok (Skip, x)) (sym f)
line_forth n (Handler c) ts f =
    ap (λ x. line_in n (fields_of (Handler c, x))) f.1
    ∙ ok_then _ (Ok (Handler c, [])) (first_decimal_is_read n 2 0 15 c [] (omega arith) f.0 (omega arith)) refl
    ∙ ap (λ x. Ok (Handler c, x)) (sym f.1)
line_forth n (Assign v) ts f = ok_then _ (Ok (Assign v, ts)) (ok_then _ (Ok (v, ts)) (first_decimal_is_read n 2 0 15 v [] (omega arith) f.0 (omega arith)) (ok_then _ (Ok (v, ts)) (whole_forth n 3 ts f.1) refl)) refl
line_forth n (Output c) ts f = ok_then _ (Ok (Output c, ts)) (ok_then _ (Ok (c, ts)) (first_decimal_is_read n 2 16 31 c [] f.0 f.1 (omega arith)) (ok_then _ (Ok (c, ts)) (whole_forth n 3 ts f.2) refl)) refl
line_forth n If ts f = ok_then _ (Ok (If, ts)) (whole_forth n 2 ts f) refl
line_forth n While ts f = ok_then _ (Ok (While, ts)) (whole_forth n 2 ts f) refl
line_forth n Else ts f = ap (λ x. line_in n (fields_of (Else, x))) f ∙ ap (λ x. Ok (Else, x)) (sym f)
line_forth n Close ts f = ap (λ x. line_in n (fields_of (Close, x))) f ∙ ap (λ x. Ok (Close, x)) (sym f)

-- what is written of a field is printable, and holds no comma
abbrev Well : List ℕ → Type 0
Well bs = Free 44 bs × (all_printable bs ≡ true)

decimal_is_well : (v : ℕ) → v < 2 ^ 32 → Well (decimal v)
decimal_is_well v h =
    let d = decimal_is_digits v (omega arith) in
    (digits_are_free 44 refl (decimal v) d, digits_are_printable (decimal v) d)

operator_is_well : (o : language.Operator) → Well (term_bytes (Operator o))
operator_is_well Plus = ((refl, tt), refl)
operator_is_well Minus = ((refl, tt), refl)
operator_is_well Times = ((refl, tt), refl)
operator_is_well Equal = ((refl, tt), refl)
operator_is_well Less = ((refl, tt), refl)
operator_is_well Round = ((refl, tt), refl)

term_is_well : (t : Term) → FitTerm t → Well (term_bytes t)
term_is_well Input f = ((refl, tt), refl)
term_is_well (Constant n) f = let w = decimal_is_well n f in ((refl, w.0), w.1)
term_is_well (Variable n) f = let w = decimal_is_well n (omega arith) in ((refl, w.0), w.1)
term_is_well (Operator o) f = operator_is_well o

terms_are_well : (ts : List Term) → AllByRecursion FitTerm ts → AllByRecursion Well (map term_bytes ts)
terms_are_well [] f = tt
terms_are_well (t ∷ ts) f = (term_is_well t f.0, terms_are_well ts f.1)

none_is_well : (ts : List Term) → ts ≡ [] → AllByRecursion Well (map term_bytes ts)
none_is_well ts e = subst (λ (x : List Term). AllByRecursion Well (map term_bytes x)) (sym e) tt

rest_is_well : (k : Kind) (ts : List Term) → FitKind k ts → AllByRecursion Well (target_of k ++ map term_bytes ts)
rest_is_well Skip ts f = none_is_well ts f
rest_is_well (Handler c) ts f = (decimal_is_well c (omega (arith, f.0)), none_is_well ts f.1)
rest_is_well (Assign v) ts f = (decimal_is_well v (omega (arith, f.0)), terms_are_well ts f.1.2)
rest_is_well (Output c) ts f = (decimal_is_well c (omega (arith, f.1)), terms_are_well ts f.2.2)
rest_is_well If ts f = terms_are_well ts f.2
rest_is_well While ts f = terms_are_well ts f.2
rest_is_well Else ts f = none_is_well ts f
rest_is_well Close ts f = none_is_well ts f

letter_is_well : (k : Kind) → Well (letter_byte k ∷ [])
letter_is_well Skip = ((refl, tt), refl)
letter_is_well (Handler c) = ((refl, tt), refl)
letter_is_well (Assign v) = ((refl, tt), refl)
letter_is_well (Output c) = ((refl, tt), refl)
letter_is_well If = ((refl, tt), refl)
letter_is_well While = ((refl, tt), refl)
letter_is_well Else = ((refl, tt), refl)
letter_is_well Close = ((refl, tt), refl)

all_free : (ps : List (List ℕ)) → AllByRecursion Well ps → AllByRecursion (Free 44) ps
all_free [] w = tt
all_free (p ∷ ps) w = (w.0.0, all_free ps w.1)

pub line_read_is_written : (n : ℕ) (p : List ℕ) (l : Line) → parse n p ≡ Ok l → (p ≡ line_bytes l) × FitLine l
line_read_is_written n p l e = let b = line_back n (pieces 44 p) l e in (sym (pieces_rejoin 44 p) ∙ ap (joined 44) b.0, b.1)

pub written_line_is_read : (n : ℕ) (l : Line) → FitLine l → parse n (line_bytes l) ≡ Ok l
written_line_is_read n l f =
    ap (line_in n) (joined_pieces_part 44 (letter_byte l.0 ∷ []) (target_of l.0 ++ map term_bytes l.1) (letter_is_well l.0).0 (all_free _ (rest_is_well l.0 l.1 f)))
    ∙ line_forth n l.0 l.1 f
