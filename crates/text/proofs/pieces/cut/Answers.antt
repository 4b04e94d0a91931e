use Rattle.std.proofs.Common.{length, rules}
use Rattle.text.proofs.Cutting.{cut_some, cut_none}
use Rattle.text.proofs.pieces.cut.Goals as goal

pub returns-in-Some : goal.returns-in-Some
returns-in-Some c = cut_some c.args.mark c.in-Some.n c.args.bytes.now (search rules) (λ k lt. search rules) (search rules)

pub returns-in-None : goal.returns-in-None
returns-in-None c = cut_none c.args.mark (length c.args.bytes.now) c.args.bytes.now (search rules) (λ k lt. search rules)
