use Rattle.std.proofs.Common.{sym, ap, ◌∙◌}
use Rattle.print.proofs.Appending.{appends_both, appends_first}
use Rattle.reactions.specs.Reactions.{turn_lines}
use Rattle.reactions.proofs.Turns.{lines_are}
use Rattle.reactions.proofs.put_turn.Goals as goal

pub returns-in_err-put_made-in-Ok-clause-text : goal.returns-in_err-put_made-in-Ok-clause-text
returns-in_err-put_made-in-Ok-clause-text g c =
    let text = ap (turn_lines (g.M.Machine.meaning c.args.machine.now) c.args.allowance c.args.n c.args.words.now) (sym c.in-Ok.ensures) ∙ lines_are _ _ _ _ _ c.react-reaction.ensures c.args.n in
    appends_first c.args.out.now _ _ _ text _ _ _ c.from_residual.ensures.0 c.in_err-put_made-in-Ok.ensures

pub returns-in_ok-put_made-in-Ok-clause-text : goal.returns-in_ok-put_made-in-Ok-clause-text
returns-in_ok-put_made-in-Ok-clause-text g c =
    let text = ap (turn_lines (g.M.Machine.meaning c.args.machine.now) c.args.allowance c.args.n c.args.words.now) (sym c.in-Ok.ensures) ∙ lines_are _ _ _ _ _ c.react-reaction.ensures c.args.n in
    appends_both c.args.out.now _ _ _ text c.put_made.new.out _ tt _ c.in_ok-put_made-in-Ok.ensures c.put_end.ensures
