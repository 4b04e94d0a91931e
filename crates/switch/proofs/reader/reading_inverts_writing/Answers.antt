use Rattle.switch.proofs.Sheets.{reading_inverts_writing}
use Rattle.switch.proofs.reader.reading_inverts_writing.Goals as goal

pub returns : goal.returns
returns c = reading_inverts_writing
