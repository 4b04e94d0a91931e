use Rattle.std.proofs.Common.{arith, rules}
use Rattle.std.proofs.lemmas.Slice.{overwrites}
use Rattle.program.proofs.Putting.{put}
use Rattle.program.proofs.reader.Progress.put.Goals as goal

pub returns-clause-value : goal.returns-clause-value
returns-clause-value c =
    put c.args.self.now c.args.rows.now c.args.terms.now c.args.line.number c.args.line.bytes.now c.in_ok-kind.kind c.read_line.new.terms.items c.len.result c.in_ok-kind.ensures c.len.ensures.value
    (omega arith) c.add.new.rows _ c.add.new.self _ c.in_ok-add.ensures.value (search rules) (search (rules, overwrites))

pub returns-clause-terms : goal.returns-clause-terms
returns-clause-terms c = search (rules, overwrites)
