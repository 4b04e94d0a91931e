use Rattle.std.proofs.Common.{sym, rules}
use Rattle.program.proofs.Collecting.{one_more}
use Rattle.program.proofs.terms.expression.Goals as goal

pub loop-lacking-preserved : goal.loop-lacking-preserved
loop-lacking-preserved c =
    rw (c.push.ensures.items, c.arity.ensures, c.next_term.ensures.taken.left, c.next_term.ensures.taken.line)
    (one_more c.in-Some.term c.loop-lacking.invariant c.loop-lacking-test.true (search rules) (sym c.in-Some.ensures.value))
