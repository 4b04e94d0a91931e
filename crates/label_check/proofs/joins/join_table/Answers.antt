use Rattle.std.proofs.Common.{◌<◌, sym, arith}
use Rattle.levels.specs.Lattices.{some_join, never_none}
use Rattle.label_check.proofs.Filling.{filled_none, filled_put, filled_row}
use Rattle.label_check.proofs.joins.join_table.Goals as goal
use Rattle.label_check.proofs.joins.join_table.Goals.{in-Some, in_default}

pub loop-b-preserved : goal.loop-b-preserved
loop-b-preserved g c =
    let L = g.S.Scheme.levels c.args.scheme.now in
    let laws = g.met.S.Scheme.lattice c.args.scheme.now in
    let a : c.loop-a.a < L.count = omega (arith, c.count-count.ensures) in
    let b : c.loop-b.b < L.count = omega (arith, c.count-count.ensures) in
    elim c.match-join.branch [
      | in-Some w ↦ rw w.joins-is (filled_put laws _ _ _ _ a b (some_join L _ _ _ (sym w.in-Some.ensures)).2 c.loop-b.invariant)
      | in_default w ↦ absurd (never_none laws _ _ a b (sym w.in_default.ensures))
    ]

pub loop-a-preserved : goal.loop-a-preserved
loop-a-preserved g c =
    let laws = g.met.S.Scheme.lattice c.args.scheme.now in
    filled_row laws _ _ _ (omega (arith, c.count-count.ensures, c.loop-b-test.false)) c.loop-b.invariant

pub loop-a-init : goal.loop-a-init
loop-a-init g c = filled_none (g.S.Scheme.levels c.args.scheme.now)
