use Rattle.program.specs.Trees.{expression_of}
use Rattle.interpreter.proofs.Moves.{assign_runs}
use Rattle.interpreter.proofs.job.Job.store.Goals as goal

pub returns : goal.returns
returns c =
    let spend = c.in_ok-spend.ensures in
    assign_runs c.args.self.now c.spend.new.self spend.job spend.due c.args.variable c.evaluate.result (expression_of c.args.expression.terms.now) _ c.evaluate.ensures
