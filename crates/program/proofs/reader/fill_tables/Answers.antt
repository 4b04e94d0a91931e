use Rattle.std.proofs.Common.{◌≡◌, Err, rules}
use Rattle.text.proofs.Steps.{given}
use Rattle.program.specs.Reading.{reading}
use Rattle.program.proofs.Filling.{misput, one_more}
use Rattle.program.proofs.reader.fill_tables.Goals as goal

pub returns-in_err-put : goal.returns-in_err-put
returns-in_err-put c =
    let e : reading c.args.text.now ≡ Err c.in_err-put.field-0.0 = misput c.loop-line.invariant (given c.in-Some.ensures.steps c.in_ok-line.was) _ c.in_err-put.ensures.value in
    search rules

pub loop-line-preserved : goal.loop-line-preserved
loop-line-preserved c =
    let r = c.in_ok-put.ensures.room in
    one_more c.loop-line.invariant (given c.in-Some.ensures.steps c.in_ok-line.was) c.put.new.self _ _ c.in_ok-put.ensures.value (search rules) (search rules) c.in_ok-put.ensures.count r.0 r.1 c.put.ensures.rows c.put.ensures.terms
