use Rattle.sheet_reader.proofs.Levels.{lines_give_levels}
use Rattle.sheet_reader.proofs.reader.lines_give_levels.Goals as goal

pub returns : goal.returns
returns c = lines_give_levels
