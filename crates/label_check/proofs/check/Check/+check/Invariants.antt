use Rattle.std.proofs.Common.{◌+◌, ◌-◌, ◌*◌, length}
use Rattle.label_check.proofs.Onward.{Walk}
use Rattle.label_check.proofs.check.Check.+check.Given as goal

abbrev pub decreases-block : goal.decreases-block
decreases-block l = 2 * (length l.self.now.program.rows.now - l.from) + 1

abbrev pub decreases-row : goal.decreases-row
decreases-row l = 2 * (length l.self.now.program.rows.now - l.at)

abbrev pub invariant-block-loop-at : goal.invariant-block-loop-at
invariant-block-loop-at l = Walk l.self l.pc.number l.from l.at

abbrev pub decreases-block-loop-at : goal.decreases-block-loop-at
decreases-block-loop-at l = length l.self.program.rows.now - l.at
