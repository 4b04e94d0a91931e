use Rattle.sheet_reader.proofs.Sheets.{reading_inverts_writing}
use Rattle.sheet_reader.proofs.reader.reading_inverts_writing.Goals as goal

pub returns : goal.returns
returns c = reading_inverts_writing
