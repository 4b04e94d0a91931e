use Rattle.runs.proofs.Slips.{a_slip_is_enough}
use Rattle.runs.proofs.a_slip_is_enough.Goals as goal

pub returns : goal.returns
returns c = a_slip_is_enough
