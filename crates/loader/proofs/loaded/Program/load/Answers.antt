use Rattle.std.proofs.Common.{sym}
use Rattle.flat_form.proofs.Loads.{part_is_program, part_is_accepted, none_is_held}
use Rattle.loader.proofs.loaded.Program.load.Goals as goal

pub invariant_of-self : goal.invariant_of-self
invariant_of-self c = record { flat = part_is_program c.args.rows.now c.args.terms.now c.in-Some.count c.in-Some.used (sym c.in-Some.ensures.value) }

pub returns-in_default-clause-accepts : goal.returns-in_default-clause-accepts
returns-in_default-clause-accepts c = λ _. none_is_held c.args.rows.now c.args.terms.now (sym c.in_default.ensures.value)

pub returns-clause-accepts : goal.returns-clause-accepts
returns-clause-accepts c = part_is_accepted c.args.rows.now c.args.terms.now c.in-Some.count c.in-Some.used (sym c.in-Some.ensures.value)
