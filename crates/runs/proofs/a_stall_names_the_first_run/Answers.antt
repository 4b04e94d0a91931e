use Rattle.runs.proofs.Laws.{a_stall_names_the_first_run}
use Rattle.runs.proofs.a_stall_names_the_first_run.Goals as goal

pub returns : goal.returns
returns c = a_stall_names_the_first_run
