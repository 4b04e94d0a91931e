use Rattle.runs.proofs.Laws.{runs_that_never_clash_never_alarm}
use Rattle.runs.proofs.runs_that_never_clash_never_alarm.Goals as goal

pub returns : goal.returns
returns c = runs_that_never_clash_never_alarm
