use Rattle.interpreter.proofs.Reactions.{reacts}
use Rattle.interpreter.proofs.tables.Tables.react.Goals as goal

pub returns : goal.returns
returns c =
    let ran = c.run_handler-ended in
    rw c.is_err.ensures.value
    (reacts c.args.self.now.rows.now c.args.self.now.terms.now c.args.words.now c.args.slip.now c.args.ticket c.args.allowance _ ran.result ran.new.job ran.ensures)
