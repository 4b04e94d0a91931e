use Rattle.typing.proofs.Passing.{passing_is_typing}
use Rattle.typing.proofs.passing_is_typing.Goals as goal

pub returns : goal.returns
returns c = passing_is_typing
