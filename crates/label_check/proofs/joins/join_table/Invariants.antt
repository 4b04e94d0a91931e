use Rattle.label_check.specs.Joins.{Filled}
use Rattle.label_check.proofs.joins.join_table.Given as goal

abbrev pub invariant-loop-a : goal.invariant-loop-a
invariant-loop-a g l = Filled (g.S.Scheme.levels l.scheme) l.joins l.a 0

abbrev pub invariant-loop-b : goal.invariant-loop-b
invariant-loop-b g l = Filled (g.S.Scheme.levels l.scheme) l.joins l.a l.b
