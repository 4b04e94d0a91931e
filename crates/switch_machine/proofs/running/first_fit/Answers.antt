use Rattle.std.proofs.Common.{◌∙◌, rules}
use Rattle.std.proofs.lemmas.Iterator.{YieldsList-from_slice}
use Rattle.std.proofs.lemmas.Iterator.Search.{find_from_yields_List}
use Rattle.switch_machine.specs.Switching.{fits}
use Rattle.switch_machine.proofs.running.first_fit.Goals as goal

pub returns : goal.returns
returns c = c.copied.ensures ∙ find_from_yields_List (fits c.args.state c.args.ticket) _ _ _ c.find.ensures.ran (YieldsList-from_slice c.args.lines.now cc) (λ x b q k. search rules)
