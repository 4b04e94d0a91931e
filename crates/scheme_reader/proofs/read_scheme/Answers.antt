use Rattle.std.proofs.Common.{rules}
use Rattle.scheme_reader.proofs.Schemes.{answer_accepts}
use Rattle.scheme_reader.proofs.read_scheme.Goals as goal

pub returns-in_err-only_line-clause-accepts : goal.returns-in_err-only_line-clause-accepts
returns-in_err-only_line-clause-accepts c = answer_accepts c.args.text.now c.from_residual.result (search rules)

pub returns-clause-accepts : goal.returns-clause-accepts
returns-clause-accepts c = answer_accepts c.args.text.now c.read_line.result (search rules)
