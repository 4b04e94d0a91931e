use Rattle.loader.specs.Loading.{rows_of, terms_of}
use Rattle.flat_form.proofs.Loads.{program_is_flat}
use Rattle.loader.proofs.loaded.load.every_program_keeps_its_form.Goals as goal

pub returns : goal.returns
returns c m =
    let flat = program_is_flat (rows_of m) (terms_of m) m.flat in
    record { program_keeps_its_limits = flat.within; rows_are_flat = flat.rows_are; terms_are_flat = flat.terms_are }
