use Rattle.std.proofs.Common.{◌≡◌, true, sym, rules}
use Rattle.program.specs.Reading.{enough}
use Rattle.program.proofs.Programs.{reading_inverts_writing}
use Rattle.loader.proofs.Holding.{loaded_tables}
use Rattle.program_loader.proofs.load_program.Goals as goal

pub returns : goal.returns
returns c =
    let read = c.in_ok-read_program.ensures.accepts in
    let lent : enough c.read_program.new.rows c.read_program.new.terms ≡ true = search rules in
    let same = loaded_tables read.0 _ _ _ c.load.new.self c.load.ensures.accepts lent read.1.program_keeps_its_limits read.2 in
    rw (same.0, same.1) (sym ((reading_inverts_writing c.args.text.now).written_is_read read.0 read.1))
