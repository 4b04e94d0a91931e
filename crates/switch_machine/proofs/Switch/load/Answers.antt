use Rattle.std.proofs.Common.{sym, refl}
use Rattle.std.proofs.lemmas.Bool.{and_parts, both_ways}
use Rattle.switch_machine.specs.Sound.{all_fit, is_left}
use Rattle.switch_machine.proofs.Leaving.{left_by_some, leaves_left}
use Rattle.switch_machine.proofs.Switch.load.Goals as goal

pub returns-then-not-is_left-clause-exactly : goal.returns-then-not-is_left-clause-exactly
returns-then-not-is_left-clause-exactly c =
    λ _ text leaves. both_ways (is_left c.args.lines.now) (sym c.if-not-is_left.ensures.value) (leaves_left text c.args.lines.now leaves)

pub invariant_of-self : goal.invariant_of-self
invariant_of-self c = record { sound = (and_parts (all_fit c.args.lines.now) _ (sym c.if-not-is_left.ensures.value)).0 }

pub returns-clause-exactly : goal.returns-clause-exactly
returns-clause-exactly c = left_by_some c.args.lines.now c.if-lines-lt-SHEET_LIMIT.false (c.if-not-is_left.ensures.fit refl) (sym c.if-not-is_left.ensures.value)
