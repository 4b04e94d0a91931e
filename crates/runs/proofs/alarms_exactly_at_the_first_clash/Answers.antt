use Rattle.runs.proofs.Exactness.{alarms_exactly_at_the_first_clash}
use Rattle.runs.proofs.alarms_exactly_at_the_first_clash.Goals as goal

pub returns : goal.returns
returns c = alarms_exactly_at_the_first_clash
