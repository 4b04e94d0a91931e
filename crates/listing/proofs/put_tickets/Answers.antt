use Rattle.std.proofs.Common.{◌∙◌, arith}
use Rattle.print.proofs.Appending.{appended_more, appended_short}
use Rattle.listing.proofs.Records.{record_lines_more}
use Rattle.listing.proofs.put_tickets.Goals as goal

pub loop-record-preserved : goal.loop-record-preserved
loop-record-preserved c =
    let steps = c.in-Some.ensures.steps in
    let same = steps.0 ∙ c.loop-record.invariant.2 in
    let more = record_lines_more _ _ _ steps.1.0 (steps.1.1 ∙ c.loop-record.invariant.2) in
    (omega (arith, same), omega arith, same, appended_more c.args.out.now _ _ _ _ more c.loop-record.out c.put_record.new.out c.loop-record.invariant.3 tt c.in_ok-put_record.ensures)

pub returns-in_err-put_record : goal.returns-in_err-put_record
returns-in_err-put_record c =
    let steps = c.in-Some.ensures.steps in
    let more = record_lines_more _ _ _ steps.1.0 (steps.1.1 ∙ c.loop-record.invariant.2) in
    appended_short c.args.out.now _ _ _ _ more c.loop-record.out _ c.loop-record.invariant.3 _ _ c.from_residual.ensures.0 c.in_err-put_record.ensures
