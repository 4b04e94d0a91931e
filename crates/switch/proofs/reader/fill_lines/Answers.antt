use Rattle.std.proofs.Common.{sym, arith}
use Rattle.text.proofs.Steps.{given}
use Rattle.switch.proofs.Filling.{one_more}
use Rattle.switch.proofs.reader.fill_lines.Goals as goal

pub loop-line-preserved : goal.loop-line-preserved
loop-line-preserved c =
    one_more c.loop-line.invariant (given c.in-Some.ensures.steps c.in_ok-line.was) c.in_ok-read.read (sym c.in_ok-read.ensures) (omega arith)
