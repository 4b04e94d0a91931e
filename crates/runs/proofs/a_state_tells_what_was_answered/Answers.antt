use Rattle.runs.proofs.States.{a_state_tells_what_was_answered}
use Rattle.runs.proofs.a_state_tells_what_was_answered.Goals as goal

pub returns : goal.returns
returns c = a_state_tells_what_was_answered
