use Rattle.std.proofs.Common.{◌∙◌}
use Rattle.label_check.specs.Tables.{labels_in}
use Rattle.label_check.proofs.Onward.{handler_on}
use Rattle.label_check.proofs.check.check_rows.Goals as goal

pub loop-at-preserved-in-Handler : goal.loop-at-preserved-in-Handler
loop-at-preserved-in-Handler c =
    let p = c.args.program.now in
    let b = c.in_ok-at-in-Handler.ensures in
    let on = handler_on (labels_in c.args.table.now) p.rows.now p.terms.now c.loop-at.at c.in-Handler.channel c.in_ok-at-in-Handler.at c.loop-at-test.true c.in-Handler.is (rw c.channel-input.ensures at b.leak) in
    (b.place.1, c.loop-at.invariant.1 ∙ on)
