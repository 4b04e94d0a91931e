-- The tables of a loaded program are sound. Assumes nothing.
use Rattle.std.proofs.Common.{◌≡◌, true, List, sym, subst}
use Rattle.language.specs.Block.{Tree}
use Rattle.program.specs.declared.rows.Row.{Row}
use Rattle.program.specs.declared.rows.Term.{Term}
use Rattle.program.specs.Trees.{tree_of}
use Rattle.program.specs.Writing.{flat_rows}
use Rattle.interpreter.specs.Sound.{Sound}
use Rattle.interpreter.proofs.Flat.{flat_is_sound}
use Rattle.flat_form.specs.Extents.{is_program}
use Rattle.flat_form.proofs.Loads.{IsFlat, program_is_flat}

sound_if_flat : (p : Tree) (rows : List Row) (terms : List Term) → IsFlat p rows terms → Sound rows terms
sound_if_flat p rows terms f =
    subst (λ (rs : List Row). Sound rs terms) (sym f.rows_are) (subst (λ (ts : List Term). Sound (flat_rows p) ts) (sym f.terms_are) (flat_is_sound p f.within))

pub program_is_sound : (rows : List Row) (terms : List Term) → is_program rows terms ≡ true → Sound rows terms
program_is_sound rows terms e = sound_if_flat (tree_of rows terms) rows terms (program_is_flat rows terms e)
