use Rattle.runs.proofs.Runs.{a_shadow_is_the_bare_run_of_what_its_level_sees}
use Rattle.runs.proofs.a_shadow_is_the_bare_run_of_what_its_level_sees.Goals as goal

pub returns : goal.returns
returns c = a_shadow_is_the_bare_run_of_what_its_level_sees
