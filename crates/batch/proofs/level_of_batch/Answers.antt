use Rattle.std.proofs.Common.{Err, rules}
use Rattle.fault.specs.declared.Reason.TheVariants as reason
use Rattle.fault.specs.Faults.{unplaced}
use Rattle.batch.proofs.Joining.{levelled, checked_has}
use Rattle.batch.proofs.level_of_batch.Goals as goal

pub returns-then-bytes-ne0-clause-least : goal.returns-then-bytes-ne0-clause-least
returns-then-bytes-ne0-clause-least g c has =
    levelled (g.met.S.Scheme.lattice c.args.scheme.now) c.args.sheet.now has c.args.bytes.now (λ i. (c.type_inv.bytes i).fits) (Err (unplaced reason.Record)) (search rules) has

pub returns-clause-least : goal.returns-clause-least
returns-clause-least g c =
    let has = checked_has (g.S.Scheme.levels c.args.scheme.now) c.args.sheet.now c.in_ok-check.ensures in
    levelled (g.met.S.Scheme.lattice c.args.scheme.now) c.args.sheet.now has c.args.bytes.now (λ i. (c.type_inv.bytes i).fits) _ (search rules)
