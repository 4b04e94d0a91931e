use Rattle.std.proofs.Common.{sym, rules}
use Rattle.flat_form.proofs.Again.{one_more}
use Rattle.flat_form.proofs.rebuild.used_by.Goals as goal

pub loop-j-preserved : goal.loop-j-preserved
loop-j-preserved c = one_more c.loop-j.invariant c.loop-j-test.true (sym c.if-not-is_fitted.ensures) c.add.new.rows c.add.new.self (search rules) (search rules) (search rules)
