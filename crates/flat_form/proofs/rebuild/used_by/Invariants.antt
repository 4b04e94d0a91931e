use Rattle.flat_form.proofs.Again.{RebuiltSoFar}
use Rattle.flat_form.proofs.rebuild.used_by.Given as goal

abbrev pub invariant-loop-j : goal.invariant-loop-j
invariant-loop-j l = RebuiltSoFar l.rows l.terms l.own l.nesting l.used l.j
