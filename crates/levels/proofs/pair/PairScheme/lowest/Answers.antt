use Rattle.levels.specs.Lattices.{lowest_level}
use Rattle.levels.proofs.pair.PairScheme.lowest.Goals as goal

pub level-requires-clause-left : goal.level-requires-clause-left
level-requires-clause-left g c = rw c.lowest.ensures (lowest_level (g.met.P.Scheme.lattice c.args.self.now.left))

pub level-requires-clause-right : goal.level-requires-clause-right
level-requires-clause-right g c = rw c.lowest-2.ensures (lowest_level (g.met.Q.Scheme.lattice c.args.self.now.right))
