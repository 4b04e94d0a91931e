use Rattle.std.proofs.Common.{sym, rules}
use Rattle.flat_form.proofs.Blanks.{all_are_blank, last_is}
use Rattle.flat_form.proofs.extent.extent_of.Goals as goal

pub returns-in-Some-clause-value : goal.returns-in-Some-clause-value
returns-in-Some-clause-value c = sym (last_is c.args.rows.now c.in-Some.last (search rules) (search rules) (search rules))

pub returns-in-None-clause-value : goal.returns-in-None-clause-value
returns-in-None-clause-value c = sym (all_are_blank c.args.rows.now (search rules))
