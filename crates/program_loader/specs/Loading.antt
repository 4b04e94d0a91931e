-- What a call that loads a text tells of it. Assumes nothing.
use Rattle.std.specs.Prelude.{[], Ok, Err, Result}
use Rattle.fault.specs.declared.Fault.{Fault}
use Rattle.program.specs.Building.{Tables, tables}
use Rattle.loader.specs.declared.loaded.Program.{Program}
use Rattle.loader.specs.Loading.{rows_of, terms_of}

-- the tables of the program, with nothing open, or the refusal
abbrev pub told : Result Program Fault → Result Tables Fault
told (Ok m) = Ok (tables (rows_of m) (terms_of m) [])
told (Err f) = Err f
