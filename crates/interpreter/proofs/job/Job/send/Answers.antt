use Rattle.std.proofs.Common.{◌<◌, sym, arith}
use Rattle.std.proofs.lemmas.Bool.{eqb-true, eqb-false}
use Rattle.program.specs.Trees.{expression_of}
use Rattle.interpreter.proofs.Moves.{full_stalls, output_runs}
use Rattle.interpreter.proofs.job.Job.send.Goals as goal

pub returns-then-is_full : goal.returns-then-is_full
returns-then-is_full c =
    full_stalls c.args.self.now c.args.channel (expression_of c.args.expression.terms.now) _ (eqb-true c.args.self.now.made 16 (sym c.if-is_full.ensures))

pub returns : goal.returns
returns c =
    let spend = c.in_ok-spend.ensures in
    let few : c.args.self.now.made < 16 = omega (arith, eqb-false c.args.self.now.made 16 (sym c.if-is_full.ensures)) in
    output_runs c.args.self.now c.spend.new.self spend.job spend.due few
    c.args.channel c.evaluate-value.result (expression_of c.args.expression.terms.now) _ c.evaluate-value.ensures
