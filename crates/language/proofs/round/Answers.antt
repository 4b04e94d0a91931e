use Rattle.std.proofs.Common.{arith}
use Rattle.std.proofs.lemmas.Grind.{common_steps}
use Rattle.language.proofs.Rounding.{rounds}
use Rattle.language.proofs.round.Goals as goal

pub returns-then-over-unit-clause-law : goal.returns-then-over-unit-clause-law
returns-then-over-unit-clause-law c = rounds c.args.value c.args.unit _ (grind (arith, common_steps))

pub returns-clause-law : goal.returns-clause-law
returns-clause-law c = rounds c.args.value c.args.unit _ (grind (arith, common_steps))
