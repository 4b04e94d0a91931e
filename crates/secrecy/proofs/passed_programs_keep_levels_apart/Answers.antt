use Rattle.secrecy.proofs.Apart.{typed_programs_keep_levels_apart, passed_programs_keep_levels_apart}
use Rattle.secrecy.proofs.passed_programs_keep_levels_apart.Goals as goal

pub returns : goal.returns
returns c = record { typed = typed_programs_keep_levels_apart; passed = passed_programs_keep_levels_apart }
