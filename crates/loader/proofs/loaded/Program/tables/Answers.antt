use Rattle.loader.specs.Lawful.{program_sound}
use Rattle.loader.proofs.loaded.Program.tables.Goals as goal

pub invariant_of-result : goal.invariant_of-result
invariant_of-result c = record { sound = program_sound c.args.self.now }
