use Rattle.std.proofs.Common.{◌&&◌, ap, ap₂, ◌∙◌}
use Rattle.std.proofs.lemmas.List.{take_rest}
use Rattle.switch_machine.specs.Sound.{all_blank}
use Rattle.switch_machine.proofs.loading.is_left.Goals as goal

pub returns-then-all_fit-clause-value : goal.returns-then-all_fit-clause-value
returns-then-all_fit-clause-value c = ap₂ (λ a b. a && b) c.if-all_fit.ensures.value (c.all_blank.ensures ∙ ap all_blank (take_rest c.args.lines.now 64))
