-- What holds of the tables that the interpreter runs. Assumes nothing.
use Rattle.std.specs.Prelude.{List}
use Rattle.machine.specs.Meaning.{Lawful}
use Rattle.language.specs.Block.{Tree}
use Rattle.language.specs.Step.{reaction}
use Rattle.program.specs.declared.rows.Row.{Row}
use Rattle.program.specs.declared.rows.Term.{Term}
use Rattle.program.specs.Trees.{tree_of}
use Rattle.program.specs.Writing.{flat_rows, flat_terms, Within}
use Rattle.interpreter.specs.Outward.{OutwardTree}
use Rattle.interpreter.specs.Sound.{Sound}

abbrev pub FlatIsSound : Type 0
FlatIsSound = (p : Tree) → Within p → Sound (flat_rows p) (flat_terms p)

abbrev pub OutwardIsLawful : Type 0
OutwardIsLawful = (p : Tree) → OutwardTree p → Lawful (reaction p)

abbrev pub SoundIsLawful : Type 0
SoundIsLawful = (rows : List Row) (terms : List Term) → Sound rows terms → Lawful (reaction (tree_of rows terms))
