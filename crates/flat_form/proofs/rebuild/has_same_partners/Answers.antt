use Rattle.std.proofs.Common.{rules}
use Rattle.std.proofs.iter.runs.Made.{chains}
use Rattle.flat_form.proofs.Again.{partners_are_compared}
use Rattle.flat_form.proofs.rebuild.has_same_partners.Goals as goal

pub returns : goal.returns
returns c = partners_are_compared c.all.result c.args.rows.now c.args.own.now c.requires (search (rules, chains)) (search (rules, chains))
