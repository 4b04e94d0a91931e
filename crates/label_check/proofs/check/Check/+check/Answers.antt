use Rattle.std.proofs.Common.{◌∷◌, sym, ◌∙◌}
use Rattle.label_check.specs.Tables.{labels_in}
use Rattle.label_check.proofs.Onward.{past}
use Rattle.label_check.proofs.check.Check.+check.Goals as goal

pub block-returns-clause-leak : goal.block-returns-clause-leak
block-returns-clause-leak t c gs =
    let check = c.args.self.now in
    let end = past (labels_in check.table.now) check.program.rows.now check.program.terms.now check.input.number in
    c.loop-at.invariant.same gs ∙ end (c.args.pc.number ∷ gs) c.loop-at.at c.loop-at-test.false ∙ sym (end gs c.loop-at.at c.loop-at-test.false)
