use Rattle.runs.proofs.Secrecy.{agreeing_lists_release_prefixes}
use Rattle.runs.proofs.agreeing_lists_release_prefixes.Goals as goal

pub returns : goal.returns
returns c = agreeing_lists_release_prefixes
