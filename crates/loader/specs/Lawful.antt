-- A loaded program makes at most sixteen tickets, and only out-tickets. Assumes nothing.
use Rattle.language.specs.Step.{reaction}
use Rattle.machine.specs.Meaning.{Lawful}
use Rattle.interpreter.specs.Sound.{Sound}
use Rattle.interpreter.proofs.Outputs.{sound_is_lawful}
use Rattle.flat_form.proofs.Sound.{program_is_sound}
use Rattle.loader.specs.declared.loaded.Program.{Program}
use Rattle.loader.specs.Loading.{rows_of, terms_of, program_in}

pub program_sound : (m : Program) → Sound (rows_of m) (terms_of m)
program_sound m = program_is_sound (rows_of m) (terms_of m) m.flat

pub program_lawful : (m : Program) → Lawful (reaction (program_in m))
program_lawful m = sound_is_lawful (rows_of m) (terms_of m) (program_sound m)
