use Rattle.std.proofs.Common.{sym, ap, ◌∙◌, arith}
use Rattle.fault.proofs.Then.{ok_not_err}
use Rattle.switch_machine.specs.Loading.{loading}
use Rattle.switch_machine.proofs.Leaving.{read_lines_load}
use Rattle.react_report.proofs.Reading.{lines_read}
use Rattle.react_report.proofs.switch_sheet.load_switch.Goals as goal

pub returns-in_err-load : goal.returns-in_err-load
returns-in_err-load c =
    let sheet = c.in_ok-read_switch.ensures in
    let read = lines_read c.args.text.now c.args.lines.now c.read_switch.new.lines c.in_ok-read_switch.field-0 (omega arith) sheet.value sheet.lines in
    absurd (ok_not_err tt _ (sym (ap loading read.2 ∙ read_lines_load c.args.text.now read.0 64 read.1 (omega arith)) ∙ sym c.in_err-load.ensures.value))

pub returns : goal.returns
returns c =
    let sheet = c.in_ok-read_switch.ensures in
    let read = lines_read c.args.text.now c.args.lines.now c.read_switch.new.lines c.in_ok-read_switch.field-0 (omega arith) sheet.value sheet.lines in
    (read.0, read.1, c.in_ok-load.ensures.machine ∙ read.2)
