-- The flat form of a program is taken. Assumes nothing.
use Rattle.std.proofs.Common.{◌≡◌, ℕ, ◌+◌, ◌-◌, ◌≤◌, Bool, true, false, cond, eqb, leb, List, [], ◌∷◌, ◌++◌, map, length, take, drop, Some, None, Ok, sym, refl, ap, ◌∙◌, subst, append_assoc, append-nil, arith, length-append}
use Rattle.std.proofs.lemmas.Bool.{eq-eqb, ne_eqb, le-leb}
use Rattle.std.proofs.lemmas.List.{length-take-le, take-append-drop}
use Rattle.std.specs.List.{AllByRecursion}
use Rattle.language.specs.Block.{Tree}
use Rattle.text.specs.Building.{Built}
use Rattle.program.specs.declared.rows.Kind.{Kind}
use Rattle.program.specs.declared.rows.Kind.TheVariants.{Skip, Handler, Assign, Output, If, While, Else, Close}
use Rattle.program.specs.declared.rows.Row.{Row}
use Rattle.program.specs.declared.rows.Term.{Term}
use Rattle.program.specs.declared.rows.Term.TheVariants.{Input, Constant, Variable, Operator}
use Rattle.program.specs.Terms.{arity_of, Whole, FitTerm, Expression}
use Rattle.program.specs.Lines.{Line, FitKind, FitLine}
use Rattle.program.specs.Building.{Tables, start, build, line_from, lines_from}
use Rattle.program.specs.Laws.{flat}
use Rattle.program.specs.Writing.{lines_of, flat_rows, flat_terms, Within}
use Rattle.program.proofs.Flattening.{lines_lead_to_the_flat_form}
use Rattle.program.proofs.Programs.{lines_fit, flat_form_tells_the_lines}
use Rattle.program.proofs.Runs.{runs_built}
use Rattle.program.proofs.Tables.{built_kept, lines_kept, terms_after}
use Rattle.flat_form.specs.Fitting.{fits_term, makes, expressed, fits_kind}
use Rattle.flat_form.specs.Rebuilding.{fitted, after, again, same_partners, ends_in, used_by}
use Rattle.flat_form.proofs.Again.{made, plain}
use Rattle.flat_form.proofs.Soundness.{plain_built, head_is, tail_is}

fit_forth : (t : Term) → FitTerm t → fits_term t ≡ true
fit_forth Input h = refl
fit_forth (Constant n) h = le-leb n 4294967295 (omega arith)
fit_forth (Variable n) h = le-leb n 15 (omega arith)
fit_forth (Operator o) h = refl

makes_forth : (l : ℕ) (ts : List Term) → Whole l ts → AllByRecursion FitTerm ts → makes l ts ≡ true
makes_forth l [] w f = eq-eqb l 0 w
makes_forth l (t ∷ ts) w f =
    let pos = w.0 in
    ap (λ b. cond b false (cond (fits_term t) (makes (l - 1 + arity_of t) ts) false)) (ne_eqb l 0 (λ z. omega arith))
    ∙ ap (λ b. cond b (makes (l - 1 + arity_of t) ts) false) (fit_forth t f.0)
    ∙ makes_forth (l - 1 + arity_of t) ts w.1 f.1

expr_forth : (ts : List Term) → Expression ts → expressed ts ≡ true
expr_forth ts h = ap (λ b. cond b (makes 1 ts) false) (le-leb (length ts) 15 h.1) ∙ makes_forth 1 ts h.0 h.2

nil_forth : (ts : List Term) → ts ≡ [] → eqb (length ts) 0 ≡ true
nil_forth ts e = eq-eqb (length ts) 0 (ap length e)

both : (a b : Bool) → a ≡ true → b ≡ true → cond a b false ≡ true
both a b e f = ap (λ x. cond x b false) e ∙ f

row_forth : (k : Kind) (ts : List Term) → FitKind k ts → fits_kind k ts ≡ true
row_forth Skip ts h = nil_forth ts h
row_forth (Handler c) ts h = both (leb c 15) _ (le-leb c 15 h.0) (nil_forth ts h.1)
row_forth (Assign v) ts h = both (leb v 15) _ (le-leb v 15 h.0) (expr_forth ts h.1)
row_forth (Output c) ts h = both (leb 16 c) _ (le-leb 16 c h.0) (both (leb c 31) _ (le-leb c 31 h.1) (expr_forth ts h.2))
row_forth If ts h = expr_forth ts h
row_forth While ts h = expr_forth ts h
row_forth Else ts h = nil_forth ts h
row_forth Close ts h = nil_forth ts h

abbrev shape : ℕ → List Line → List Row
shape u [] = []
shape u (l ∷ ls) = made l.0 u (length l.1) ∷ shape (u + length l.1) ls

grown : (s : Tables) (n : ℕ) (l : Line) (u : Tables) → build s n l ≡ Ok u → length u.terms ≡ length s.terms + length l.1
grown s n l u e = ap length (terms_after s n l u e) ∙ length-append s.terms l.1

grows : (s : Tables) (n : ℕ) (ls : List Line) (t : Tables) → Built build s n ls t → length s.terms ≤ length t.terms
grows s n [] t e = let q = ap (λ (x : Tables). length x.terms) e in omega arith
grows s n (l ∷ ls) t e = let a = grown s (n + 1) l e.0 e.1 in let b = grows e.0 (n + 1) ls t e.2 in omega arith

shaped : (s : Tables) (n : ℕ) (ls : List Line) (t : Tables) → Built build s n ls t → map plain t.rows ≡ map plain s.rows ++ shape (length s.terms) ls
shaped s n [] t e = ap (λ (x : Tables). map plain x.rows) (sym e) ∙ sym (append-nil (map plain s.rows))
shaped s n (l ∷ ls) t e =
    shaped e.0 (n + 1) ls t e.2
    ∙ ap (λ x. x ++ shape (length e.0.terms) ls) (plain_built s (n + 1) l e.0 e.1)
    ∙ append_assoc (map plain s.rows) (made l.0 (length s.terms) (length l.1) ∷ []) (shape (length e.0.terms) ls)
    ∙ ap (λ k. map plain s.rows ++ made l.0 (length s.terms) (length l.1) ∷ shape k ls) (grown s (n + 1) l e.0 e.1)

runs : (terms : List Term) (s : Tables) (n : ℕ) (rs : List Row) (t : Tables) → map plain rs ≡ shape (length s.terms) (lines_from rs terms) → AllByRecursion FitLine (lines_from rs terms) → Built build s n (lines_from rs terms) t → length t.terms ≤ length terms → again terms s n rs ≡ Some t
runs terms s n [] t p f b le = ap (λ x. Some x) b
runs terms s n (r ∷ rs) t p f b le =
    let l = line_from terms r in
    let hd = head_is (plain r) (made r.kind (length s.terms) (length l.1)) (map plain rs) (shape (length s.terms + length l.1) (lines_from rs terms)) p in
    let tl = tail_is (plain r) (made r.kind (length s.terms) (length l.1)) (map plain rs) (shape (length s.terms + length l.1) (lines_from rs terms)) p in
    let e1 : r.first ≡ length s.terms = ap (λ (x : Row). x.first) hd in
    let e2 : r.count ≡ length l.1 = ap (λ (x : Row). x.count) hd in
    let g = grown s (n + 1) l b.0 b.1 in
    let m = grows b.0 (n + 1) (lines_from rs terms) t b.2 in
    let fit : fitted terms (length s.terms) r ≡ true = both (eqb r.first (length s.terms)) _ (eq-eqb _ _ e1) (both (leb (r.first + r.count) (length terms)) _ (le-leb _ _ (omega arith)) (row_forth r.kind l.1 f.0)) in
    ap (λ x. cond x (after (build s (n + 1) l) (λ u. again terms u (n + 1) rs)) None) fit
    ∙ ap (λ x. after x (λ u. again terms u (n + 1) rs)) b.1
    ∙ runs terms b.0 (n + 1) rs t (tl ∙ ap (λ k. shape k (lines_from rs terms)) (sym g)) f.1 b.2 le

partners_of_themselves : (rows : List Row) → same_partners rows rows ≡ true
partners_of_themselves [] = refl
partners_of_themselves (r ∷ rs) = both (eqb r.partner r.partner) _ (eq-eqb _ _ refl) (partners_of_themselves rs)

pub flat_is_taken : (p : Tree) (terms : List Term) (m : ℕ) → Within p → m ≤ length terms → take m terms ≡ flat_terms p → used_by (flat_rows p) terms ≡ Some m
flat_is_taken p terms m w le e =
    let rows = flat_rows p in
    let b = runs_built start 0 (lines_of p) (flat p) (lines_lead_to_the_flat_form p w) in
    let k = (built_kept start 0 [] (lines_of p) (flat p) (record { within = tt; lines = refl }) b).within in
    let own : lines_from rows terms ≡ lines_of p =
    ap (lines_from rows) (sym (take-append-drop m terms) ∙ ap (λ x. x ++ drop m terms) e) ∙ lines_kept rows (flat_terms p) (drop m terms) k ∙ flat_form_tells_the_lines p w in
    let fit : AllByRecursion FitLine (lines_from rows terms) = subst (λ (ls : List Line). AllByRecursion FitLine ls) (sym own) (lines_fit p w.handlers_fit) in
    let built : Built build start 0 (lines_from rows terms) (flat p) = subst (λ (ls : List Line). Built build start 0 ls (flat p)) (sym own) b in
    let long : length (flat_terms p) ≡ m = ap length (sym e) ∙ length-take-le m terms le in
    let run = runs terms start 0 rows (flat p) (shaped start 0 (lines_from rows terms) (flat p) built) fit built (omega arith) in
    ap (ends_in rows) run ∙ ap (λ b. cond b (Some (length (flat_terms p))) None) (partners_of_themselves rows) ∙ ap (λ n. Some n) long
