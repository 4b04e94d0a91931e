use Rattle.std.proofs.Common.{[], sym, ap, ◌∙◌, arith, rules}
use Rattle.sheet.specs.Sheets.{uniform}
use Rattle.text.proofs.Steps.{given}
use Rattle.sheet_reader.proofs.Filling.{one_more}
use Rattle.sheet_reader.proofs.Flags.{tells_none}
use Rattle.sheet_reader.proofs.reader.fill_sheet.Goals as goal

pub loop-line-init : goal.loop-line-init
loop-line-init g c = record { lines = []; flagged = tells_none; given = c.uniform.ensures ∙ ap uniform c.lowest-lowest.ensures; same = search rules }

pub loop-line-preserved : goal.loop-line-preserved
loop-line-preserved g c =
    one_more c.loop-line.invariant (given c.in-Some.ensures.steps c.in_ok-line.was) c.in_ok-name.field-0 (sym c.in_ok-name.ensures.value) _ c.place-place.ensures.value
    c.if-named-place.false (omega arith) _ c.give.ensures
