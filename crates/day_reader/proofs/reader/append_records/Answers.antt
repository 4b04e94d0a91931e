use Rattle.std.proofs.Common.{sym}
use Rattle.std.proofs.lemmas.Result.{err_from_is_err_and}
use Rattle.text.proofs.Steps.{given}
use Rattle.day_reader.proofs.Appending.{one_more, no_room}
use Rattle.day_reader.proofs.reader.append_records.Goals as goal

pub returns-in_err-extend_from_slice-clause-records : goal.returns-in_err-extend_from_slice-clause-records
returns-in_err-extend_from_slice-clause-records c =
    let p = err_from_is_err_and c.from_residual-in_err-extend_from_slice.result c.from_residual-in_err-extend_from_slice.ensures.1 in
    let h = c.in_err-extend_from_slice.ensures in
    rw (p.1, p.2)
    (no_room c.loop-line.invariant (given c.in-Some.ensures.steps c.in_ok-line.was) c.in_ok-hand_in.hand_in (sym c.in_ok-hand_in.ensures) _ c.record.ensures.value
    c.extend_from_slice.new.self h.capacity h.items h.full)

pub loop-line-preserved : goal.loop-line-preserved
loop-line-preserved c =
    let h = c.in_ok-extend_from_slice.ensures in
    one_more c.loop-line.invariant (given c.in-Some.ensures.steps c.in_ok-line.was) c.in_ok-hand_in.hand_in (sym c.in_ok-hand_in.ensures) _ c.record.ensures.value
    c.extend_from_slice.new.self h.capacity h.items
