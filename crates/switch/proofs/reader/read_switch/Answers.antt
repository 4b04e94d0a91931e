use Rattle.std.proofs.Common.{rules}
use Rattle.switch.proofs.Sheets.{answer_accepts}
use Rattle.switch.proofs.reader.read_switch.Goals as goal

pub returns-then-is_err-clause-accepts : goal.returns-then-is_err-clause-accepts
returns-then-is_err-clause-accepts c = answer_accepts c.args.text.now c.args.lines.now c.fill_lines-read.result c.fill-then-is_err.new.self (search rules) (search rules)

pub returns-else-is_err-clause-accepts : goal.returns-else-is_err-clause-accepts
returns-else-is_err-clause-accepts c = answer_accepts c.args.text.now c.args.lines.now c.fill_lines-read.result c.fill_lines-read.new.lines (search rules) (search rules)
