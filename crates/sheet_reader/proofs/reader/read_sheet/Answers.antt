use Rattle.std.proofs.Common.{rules}
use Rattle.sheet_reader.proofs.Sheets.{answer_accepts}
use Rattle.sheet_reader.proofs.reader.read_sheet.Goals as goal

pub returns-then-is_err-clause-accepts : goal.returns-then-is_err-clause-accepts
returns-then-is_err-clause-accepts g c =
    answer_accepts (g.S.Scheme.levels c.args.scheme.now) c.args.text.now c.fill_sheet-read.result c.uniform.result (search rules) (search rules)

pub returns-else-is_err-clause-accepts : goal.returns-else-is_err-clause-accepts
returns-else-is_err-clause-accepts g c =
    answer_accepts (g.S.Scheme.levels c.args.scheme.now) c.args.text.now c.fill_sheet-read.result c.fill_sheet-read.new.sheet (search rules) (search rules)
