use Rattle.std.proofs.Common.{rules}
use Rattle.program.proofs.Programs.{answer_accepts}
use Rattle.program.proofs.reader.read_program.Goals as goal

pub returns-then-is_err-clause-accepts : goal.returns-then-is_err-clause-accepts
returns-then-is_err-clause-accepts c = answer_accepts c.args.text.now c.args.rows.now c.args.terms.now _ _ _ (search rules) (search rules) (search rules)

pub returns-else-is_err-clause-accepts : goal.returns-else-is_err-clause-accepts
returns-else-is_err-clause-accepts c = answer_accepts c.args.text.now c.args.rows.now c.args.terms.now _ _ _ (search rules) (search rules) (search rules)
