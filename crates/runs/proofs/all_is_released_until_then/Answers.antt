use Rattle.runs.proofs.Exactness.{all_is_released_until_then}
use Rattle.runs.proofs.all_is_released_until_then.Goals as goal

pub returns : goal.returns
returns c = all_is_released_until_then
