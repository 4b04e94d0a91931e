use Rattle.std.proofs.Common.{sym}
use Rattle.text.proofs.Cutting.{shorter}
use Rattle.text.proofs.Raggedness.{unfed_is_ragged, unclean_is_ragged, line_and_rest}
use Rattle.text.proofs.lines.next_line.Goals as goal
use Rattle.text.proofs.lines.next_line.Goals.{in_default-via-in-Some+else-is_clean, in_default-via-in_default}

pub returns-in-Some : goal.returns-in-Some
returns-in-Some c =
    let left = c.args.left.now in
    let q = line_and_rest left c.cut.result.0.now c.cut.result.1 c.cut.ensures c.in-Some.rest c.in-Some.is in
    record { cut = q; clean = sym c.if-is_clean.ensures; shorter = shorter 10 left c.cut.result.0.now c.in-Some.rest.now q }

pub returns-in_default : goal.returns-in_default
returns-in_default c =
    let left = c.args.left.now in
    elim c.in_default.branch [
      | in_default-via-in-Some+else-is_clean w ↦
          (unclean_is_ragged left c.cut.result.0.now c.cut.result.1 c.cut.ensures w.in-Some.rest w.in-Some.is (sym w.if-is_clean.ensures), c.fault.ensures)
      | in_default-via-in_default w ↦
          (unfed_is_ragged left c.cut.result.0.now c.cut.result.1 c.cut.ensures w.in_default.is (sym c.if-is_empty.ensures), c.fault.ensures)
    ]
