use Rattle.std.proofs.Common.{◌+◌, ◌-◌, ◌*◌, ◌<◌, length}
use Rattle.program.specs.Trees.{expression_of}
use Rattle.interpreter.specs.Jobs.{Reaches}
use Rattle.interpreter.specs.Places.{frames_at, block_at, repeat_at}
use Rattle.interpreter.proofs.tables.Tables.+run.Given as goal

abbrev pub decreases-block : goal.decreases-block
decreases-block l = 3 * l.job.now.left + 2

abbrev pub decreases-row : goal.decreases-row
decreases-row l = 3 * l.job.now.left + 1

abbrev pub decreases-turns : goal.decreases-turns
decreases-turns l = 3 * l.job.now.left

abbrev pub invariant-block-loop-at : goal.invariant-block-loop-at
invariant-block-loop-at l =
    (l.at < length l.self.rows.now)
    × (0 < length (frames_at l.self.rows.now l.self.terms.now l.at))
    × Reaches l.initial.job (block_at l.self.rows.now l.self.terms.now l.initial.at) l.job (block_at l.self.rows.now l.self.terms.now l.at)

abbrev pub decreases-block-loop-at : goal.decreases-block-loop-at
decreases-block-loop-at l = length l.self.rows.now - l.at

abbrev pub invariant-turns-loop-job : goal.invariant-turns-loop-job
invariant-turns-loop-job l = let again = repeat_at l.self.rows.now l.self.terms.now (expression_of l.test.terms.now) l.from in Reaches l.initial.job again l.job again

abbrev pub decreases-turns-loop-job : goal.decreases-turns-loop-job
decreases-turns-loop-job l = l.job.left
