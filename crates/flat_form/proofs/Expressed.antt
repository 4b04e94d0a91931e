-- The loop of `is_expression`. Assumes nothing.
use Rattle.std.proofs.Common.{◌≡◌, ℕ, ◌+◌, ◌-◌, ◌<◌, ◌≤◌, ◌⊎◌, false, cond, eqb, List, length, get_or, drop, sym, ap, ◌∙◌, ⊎_elim}
use Rattle.std.proofs.lemmas.Bool.{eq-eqb, le-leb}
use Rattle.std.proofs.lemmas.List.{drop_more}
use Rattle.program.specs.declared.rows.Term.{Term}
use Rattle.program.specs.declared.rows.Term.TheVariants.{Input}
use Rattle.program.specs.Terms.{arity_of}
use Rattle.program.proofs.Cases.{neither}
use Rattle.flat_form.specs.Fitting.{fits_term, makes, expressed}

-- a term that is one too many, or is not in its range
pub stops : (ts : List Term) (lacking i : ℕ) → length ts ≤ 15 → makes 1 ts ≡ makes lacking (drop i ts) → i < length ts → (lacking ≡ 0) ⊎ (fits_term (get_or ts i Input) ≡ false) → false ≡ expressed ts
stops ts lacking i few same h o =
    let t = get_or ts i Input in
    let rest = makes (lacking - 1 + arity_of t) (drop (i + 1) ts) in
    sym
    (
    ap (λ b. cond b (makes 1 ts) false) (le-leb (length ts) 15 few)
    ∙ same
    ∙ ap (makes lacking) (drop_more ts i Input h)
    ∙ ⊎_elim
    (λ z. ap (λ b. cond b false (cond (fits_term t) rest false)) (eq-eqb lacking 0 z))
    (λ u. ap (λ b. cond (eqb lacking 0) false (cond b rest false)) u ∙ neither (eqb lacking 0))
    o
    )
