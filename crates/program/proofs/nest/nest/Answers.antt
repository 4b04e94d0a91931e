use Rattle.std.proofs.Common.{rules}
use Rattle.program.proofs.Stacks.{opened, ended, turned}
use Rattle.program.proofs.nest.nest.Goals as goal

pub returns-in-If-clause-among : goal.returns-in-If-clause-among
returns-in-If-clause-among c =
    opened _ c.args.open.now.items c.push-in-If.new.self.items c.requires.among (search rules) (search rules)

pub returns-else-ne-clause-among : goal.returns-else-ne-clause-among
returns-else-ne-clause-among c =
    turned _ c.in_ok-top-in-Else.field-0 c.args.open.now.items c.pop.new.self.items c.requires.among (search rules) c.push-in-Else.new.self.items (search rules)

pub returns-in_ok-rows-in-Close-clause-among : goal.returns-in_ok-rows-in-Close-clause-among
returns-in_ok-rows-in-Close-clause-among c =
    ended _ c.in_ok-rows-in-Close.field-0 c.args.open.now.items c.pop-in-Close.new.self.items c.requires.among (search rules)
