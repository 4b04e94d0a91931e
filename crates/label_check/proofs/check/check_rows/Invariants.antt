use Rattle.std.proofs.Common.{◌≡◌, ◌-◌, ◌≤◌, [], length}
use Rattle.program.specs.Building.{lines_from}
use Rattle.label_check.specs.Rows.{first_leak}
use Rattle.label_check.specs.Tables.{labels_in, onward}
use Rattle.label_check.proofs.check.check_rows.Given as goal

abbrev pub invariant-loop-at : goal.invariant-loop-at
invariant-loop-at l =
    (l.at ≤ length l.program.rows.now)
    × (first_leak (labels_in l.table) (lines_from l.program.rows.now l.program.terms.now) ≡ onward (labels_in l.table) l.program.rows.now l.program.terms.now 0 [] l.at)

abbrev pub decreases-loop-at : goal.decreases-loop-at
decreases-loop-at l = length l.program.rows.now - l.at
