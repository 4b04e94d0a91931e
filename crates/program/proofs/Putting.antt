-- One line into the lent tables: it is read, its row is added, and its terms are copied. Assumes nothing.
use Rattle.std.proofs.Common.{◌≡◌, ℕ, ◌+◌, ◌≤◌, List, ◌++◌, length, take, Ok, Err, Result, sym, refl, ap, ◌∙◌, subst}
use Rattle.std.proofs.lemmas.List.{length-take-le}
use Rattle.fault.specs.declared.Fault.{Fault}
use Rattle.fault.specs.Faults.{then}
use Rattle.text.specs.Building.{two_steps}
use Rattle.program.specs.declared.reader.Progress.{Progress}
use Rattle.program.specs.declared.rows.Kind.{Kind}
use Rattle.program.specs.declared.rows.Row.{Row}
use Rattle.program.specs.declared.rows.Term.{Term}
use Rattle.program.specs.Lines.{parse}
use Rattle.program.specs.Building.{Tables, tables, build}
use Rattle.program.specs.Nesting.{Adds, Builds}
use Rattle.program.specs.Open.{Open}
use Rattle.program.specs.Progress.{so_far, GoesOn}
use Rattle.program.proofs.Tables.{terms_after}

pub added_err : (x : Result Tables Fault) (f : Fault) (rows : List Row) (stack : List ℕ) → Adds x (Err f) rows stack → x ≡ Err f
added_err (Ok t) f rows stack h = cc
added_err (Err g) f rows stack h = cc

pub added_ok : (x : Result Tables Fault) (rows : List Row) (stack : List ℕ) → Adds x (Ok tt) rows stack → (t : Tables) × (x ≡ Ok t) × (rows ≡ t.rows) × (stack ≡ t.stack)
added_ok (Ok t) rows stack h = (t, refl, h.1, h.2)
added_ok (Err f) rows stack h = cc

module _ (p : Progress) (rows : List Row) (terms : List Term) (n : ℕ) (line : List ℕ) (k : Kind) (ts : List Term) (count : ℕ) (read : Ok (k, ts) ≡ parse n line) (many : count ≡ length ts) (le : p.used ≤ length terms) where
  abbrev row : Row
  row = record { kind = k; first = p.used; count = count; partner = 0 }

  stepped : two_steps parse build (so_far p rows terms) n line ≡ build (so_far p rows terms) n (k, ts)
  stepped = ap (λ x. then x (build (so_far p rows terms) n)) (sym read)

  pub put : (rows' : List Row) (terms' : List Term) (after : Open) (used : ℕ) → Builds rows p.nesting n row (Ok tt) rows' after → after.count ≡ p.nesting.count + 1 → take used terms' ≡ take p.used terms ++ ts
      → GoesOn (two_steps parse build (so_far p rows terms) n line) (Ok tt) (so_far (record { nesting = after; used = used }) rows' terms')
  put rows' terms' after used b counted copied =
      let x = added_ok _ _ _ (b (take p.used terms) ts (length-take-le p.used terms le) (sym many)) in
      let t = x.0 in
      let rs : take after.count rows' ≡ t.rows = ap (λ i. take i rows') counted ∙ x.2 in
      let us : take used terms' ≡ t.terms = copied ∙ sym (terms_after (so_far p rows terms) n (k, ts) t x.1) in
      subst (λ (y : Result Tables Fault). GoesOn y (Ok tt) (tables (take after.count rows') (take used terms') after.stack)) (sym (stepped ∙ x.1))
      (refl, ap (λ a. tables a (take used terms') after.stack) rs ∙ ap (λ a. tables t.rows a after.stack) us ∙ ap (λ a. tables t.rows t.terms a) x.3)
