-- The terms that are written of an expression make just that expression. Assumes nothing.
use Rattle.std.proofs.Common.{◌≡◌, ℕ, ◌<◌, List, [], ◌∷◌, ◌++◌, length, take, drop, sym, refl, ap, ◌∙◌, subst, arith, length-append, length-drop}
use Rattle.std.proofs.lemmas.List.{take_at}
use Rattle.language.specs.Expression.{Expr, input, constant, variable, binary}
use Rattle.program.specs.declared.rows.Kind.{Kind}
use Rattle.program.specs.declared.rows.Term.{Term}
use Rattle.program.specs.Trees.{expressions, first_expression}
use Rattle.program.specs.Writing.{terms_of, row, InRange}
use Rattle.program.proofs.Spelling.{expression_is_spelled}
use Rattle.interpreter.specs.Places.{terms_at}
use Rattle.interpreter.specs.Sound.{Expressed}

some_term : (e : Expr) → 0 < length (terms_of e)
some_term input = omega arith
some_term (constant n) = omega arith
some_term (variable v) = omega arith
some_term (binary o l r) = omega arith

pub expressed : (terms : List Term) (u : ℕ) (e : Expr) (k : Kind) (p : ℕ) (more : List Term) → drop u terms ≡ terms_of e ++ more → InRange e → Expressed terms (row k u (length (terms_of e)) p)
expressed terms u e k p more here range =
    let t : terms_at terms (row k u (length (terms_of e)) p) ≡ terms_of e = ap (take (length (terms_of e))) here ∙ take_at (terms_of e) more (length (terms_of e)) refl in
    let q : expressions (terms_at terms (row k u (length (terms_of e)) p)) ≡ e ∷ [] = ap expressions t ∙ expression_is_spelled e in
    record {
      there = omega (arith, some_term e, length-drop u terms, ap length here, length-append (terms_of e) more);
      whole = record { one = q ∙ ap (λ x. x ∷ []) (sym (ap first_expression q)); ranged = subst InRange (sym (ap first_expression q)) range };
    }
