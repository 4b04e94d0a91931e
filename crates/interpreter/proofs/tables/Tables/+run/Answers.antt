use Rattle.std.proofs.Common.{ℕ, ◌<◌, length, sym, refl, ◌∙◌, subst}
use Rattle.std.proofs.lemmas.Bool.{false≢true}
use Rattle.program.specs.Trees.{expression_of, here}
use Rattle.interpreter.specs.Jobs.{Reaches}
use Rattle.interpreter.specs.Places.{frames_at, next_at, block_at, row_at, repeat_at}
use Rattle.interpreter.proofs.Chains.{reaches_more, stalls_in_first}
use Rattle.interpreter.proofs.Frames.{open_is_within, goes}
use Rattle.interpreter.proofs.Moves.{turned}
use Rattle.interpreter.proofs.tables.Tables.+run.Goals as goal
use Rattle.interpreter.proofs.tables.Tables.+run.Goals.{block-in-Else, block-in_default}

pub block-returns-in_err-row : goal.block-returns-in_err-row
block-returns-in_err-row t c =
    let rows = c.args.self.now.rows.now in
    let terms = c.args.self.now.terms.now in
    let at = c.loop-at.at in
    let come = c.loop-at.invariant in
    elim c.match-matches.branch [
      | block-in-Else w ↦ absurd (false≢true (sym c.if-not-matches.true ∙ w.matches-is))
      | block-in_default w ↦
          let g = goes rows terms at c.args.self.now.sound come.0 come.1 w.in_default.not-Else w.in_default.not-Close in
          stalls_in_first c.args.job.now c.loop-at.job c.row.new.job (block_at rows terms c.args.from) (block_at rows terms at) come.2
          (row_at rows terms at) (block_at rows terms (next_at rows at)) g.is _ c.from_residual.result c.from_residual.ensures.0 c.in_err-row.ensures
    ]

pub block-loop-at-preserved : goal.block-loop-at-preserved
block-loop-at-preserved t c =
    let rows = c.args.self.now.rows.now in
    let terms = c.args.self.now.terms.now in
    let at = c.loop-at.at in
    let from = block_at rows terms c.args.from in
    let come = c.loop-at.invariant in
    elim c.match-matches.branch [
      | block-in-Else w ↦ absurd (false≢true (sym c.if-not-matches.true ∙ w.matches-is))
      | block-in_default w ↦
          let g = goes rows terms at c.args.self.now.sound come.0 come.1 w.in_default.not-Else w.in_default.not-Close in
          let on = reaches_more c.args.job.now c.loop-at.job c.row.new.job from (block_at rows terms at) come.2 (row_at rows terms at) (block_at rows terms (next_at rows at)) g.is c.in_ok-row.ensures in
          let inside : 0 < length (frames_at rows terms c.after-at.result) = rw c.after-at.ensures g.inside in (
            open_is_within rows terms c.after-at.result inside,
            inside,
            subst (λ (i : ℕ). Reaches c.args.job.now from c.row.new.job (block_at rows terms i)) (sym c.after-at.ensures) on,
          )
    ]

pub turns-returns-in_err-block : goal.turns-returns-in_err-block
turns-returns-in_err-block t c =
    let rows = c.args.self.now.rows.now in
    let terms = c.args.self.now.terms.now in
    let e = expression_of c.args.test.terms.now in
    let body = block_at rows terms c.args.from in
    let again = repeat_at rows terms e c.args.from in
    let spend = c.in_ok-spend.ensures in
    let come = turned c.loop-job.job c.spend.new.self spend.job spend.due c.args.job.now e (here (frames_at rows terms c.args.from)) c.loop-job.invariant (λ z. c.if-evaluate-eq0.false (c.evaluate.ensures ∙ z)) in
    stalls_in_first c.args.job.now c.spend.new.self c.block.new.job again (λ k. body (again k)) come body again (λ k. refl) _ c.from_residual-in_err-block.result c.from_residual-in_err-block.ensures.0 c.in_err-block.ensures

pub turns-loop-job-preserved : goal.turns-loop-job-preserved
turns-loop-job-preserved t c =
    let rows = c.args.self.now.rows.now in
    let terms = c.args.self.now.terms.now in
    let e = expression_of c.args.test.terms.now in
    let body = block_at rows terms c.args.from in
    let again = repeat_at rows terms e c.args.from in
    let spend = c.in_ok-spend.ensures in
    let come = turned c.loop-job.job c.spend.new.self spend.job spend.due c.args.job.now e (here (frames_at rows terms c.args.from)) c.loop-job.invariant (λ z. c.if-evaluate-eq0.false (c.evaluate.ensures ∙ z)) in
    reaches_more c.args.job.now c.spend.new.self c.block.new.job again (λ k. body (again k)) come body again (λ k. refl) c.in_ok-block.ensures
