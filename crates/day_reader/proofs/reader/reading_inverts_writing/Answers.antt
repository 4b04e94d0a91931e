use Rattle.day_reader.proofs.Days.{reading_inverts_writing}
use Rattle.day_reader.proofs.reader.reading_inverts_writing.Goals as goal

pub returns : goal.returns
returns c = reading_inverts_writing
