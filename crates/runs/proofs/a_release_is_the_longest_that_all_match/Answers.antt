use Rattle.runs.proofs.Laws.{a_release_is_the_longest_that_all_match}
use Rattle.runs.proofs.a_release_is_the_longest_that_all_match.Goals as goal

pub returns : goal.returns
returns c = a_release_is_the_longest_that_all_match
