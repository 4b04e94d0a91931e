-- What holds of every loaded program. Assumes nothing.
use Rattle.std.specs.Prelude.{◌≡◌}
use Rattle.program.specs.Writing.{flat_rows, flat_terms, Within}
use Rattle.loader.specs.declared.loaded.Program.{Program}
use Rattle.loader.specs.Loading.{rows_of, terms_of, program_in}

-- a loaded program keeps its limits, and its tables are its flat form
pub record Keeps (m : Program) : Type 0 where
  pub program_keeps_its_limits : Within (program_in m)
  pub rows_are_flat : rows_of m ≡ flat_rows (program_in m)
  pub terms_are_flat : terms_of m ≡ flat_terms (program_in m)

abbrev pub EveryProgramKeepsItsForm : Type 0
EveryProgramKeepsItsForm = (m : Program) → Keeps m
