use Rattle.scheme_reader.proofs.Schemes.{reading_inverts_writing}
use Rattle.scheme_reader.proofs.reading_inverts_writing.Goals as goal

pub returns : goal.returns
returns c = reading_inverts_writing
