-- Parts of a reaction, one after the other. Assumes nothing.
use Rattle.std.proofs.Common.{◌≡◌, Ok, Err, Result, IsErr, ap, ◌∙◌}
use Rattle.language.specs.Block.{Block}
use Rattle.interpreter.specs.Jobs.{start, Runs, Reaches}
use Rattle.interpreter.specs.declared.job.Job.{Job}
use Rattle.interpreter.specs.declared.job.Stalled.{Stalled}
use Rattle.interpreter.proofs.Keeping.{keeps_on}

module _ (i j j' : Job) (part rest : Block → Block) (come : Reaches i part j rest) where
  pub reaches_on : (rest' : Block → Block) → Reaches j rest j' rest' → Reaches i part j' rest'
  reaches_on rest' r = record { keeps = keeps_on i j j' come.keeps r.keeps; as_told = λ k. come.as_told k ∙ r.as_told k }

  -- what is left is a first part and more, and the first part ends or stalls
  module _ (first more : Block → Block) (split : (k : Block) → rest k ≡ first (more k)) where
    pub reaches_more : Runs j first (Ok tt) j' → Reaches i part j' more
    reaches_more r = record { keeps = keeps_on i j j' come.keeps r.keeps; as_told = λ k. come.as_told k ∙ ap (start j) (split k) ∙ r.as_told (more k) }

    pub stalls_in_first : (e : Stalled) (r : Result (Unit {0}) Stalled) → IsErr r → Runs j first (Err e) j' → Runs i part r j'
    stalls_in_first e (Ok u) err s = cc
    stalls_in_first e (Err f) err s = record { keeps = keeps_on i j j' come.keeps s.keeps; as_told = λ k. come.as_told k ∙ ap (start j) (split k) ∙ s.as_told (more k) }
