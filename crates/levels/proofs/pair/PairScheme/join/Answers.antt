use Rattle.std.proofs.Common.{Some, sym, ap, ◌∙◌}
use Rattle.levels.specs.Products.{pair_join_none, pair_join_some}
use Rattle.levels.proofs.pair.PairScheme.join.Goals as goal

pub returns-in_err-p : goal.returns-in_err-p
returns-in_err-p g c =
    let s = c.args.self.now in
    let e = simp c.count-b.ensures at (sym c.join.ensures ∙ c.in_err-p.was) in
    c.from_residual.ensures ∙ sym (pair_join_none (g.met.P.Scheme.lattice s.left) (g.met.Q.Scheme.lattice s.right) c.args.m c.args.n s.small e)

pub returns : goal.returns
returns g c =
    let s = c.args.self.now in
    let e = simp c.count-b.ensures at (sym c.join.ensures ∙ c.in_ok-p.was) in
    let f = simp c.count-b.ensures at (sym c.join-2.ensures ∙ c.in_ok-q.was) in
    ap Some c.level.ensures ∙ sym (pair_join_some (g.met.P.Scheme.lattice s.left) (g.met.Q.Scheme.lattice s.right) c.args.m c.args.n _ _ s.small e f)
