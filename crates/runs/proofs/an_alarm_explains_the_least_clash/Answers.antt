use Rattle.runs.proofs.Laws.{an_alarm_explains_the_least_clash}
use Rattle.runs.proofs.an_alarm_explains_the_least_clash.Goals as goal

pub returns : goal.returns
returns c = an_alarm_explains_the_least_clash
