-- What the reader of programs accepts, with no word of how it reads. Assumes nothing.
use Rattle.std.specs.Prelude.{◌≡◌, ℕ, ◌≤◌, true, List, [], length, Ok, Err, Result}
use Rattle.std.specs.List.{AllByRecursion}
use Rattle.fault.specs.declared.Fault.{Fault}
use Rattle.language.specs.Block.{Tree}
use Rattle.text.specs.Lines.{text_limit, is_clean}
use Rattle.program.specs.declared.rows.Row.{Row}
use Rattle.program.specs.declared.rows.Term.{Term}
use Rattle.program.specs.Lines.{line_bytes}
use Rattle.program.specs.Building.{blank_row, blank_term, Tables, tables}
use Rattle.program.specs.Reading.{reading, padded, enough}
use Rattle.program.specs.Trees.{tree_of}
use Rattle.program.specs.Writing.{lines_of, written, flat_rows, flat_terms, Within}

-- the text t is the writing of the program p, which keeps its limits, and those on bytes
pub record Writes (p : Tree) (t : List ℕ) : Type 0 where
  pub program_keeps_its_limits : Within p
  pub lines_are_clean : AllByRecursion (λ l. is_clean (line_bytes l) ≡ true) (lines_of p)
  pub text_is_short : length t ≤ text_limit
  pub text_is_written : t ≡ written p

-- the tables of a program, with nothing open
abbrev pub flat : Tree → Tables
flat p = tables (flat_rows p) (flat_terms p) []

-- the lent tables hold the flat form of the program p, and blanks behind it
abbrev pub Hold : Tree → List Row → List Term → Type 0
Hold p rows terms = (rows ≡ padded blank_row (length rows) (flat_rows p)) × (terms ≡ padded blank_term (length terms) (flat_terms p))

-- a text is read as the flat form of the program that it is the writing of; where it is refused, there is none
abbrev pub Accepts : List ℕ → List Row → List Term → Result ℕ Fault → List Row → List Term → Type 0
Accepts t rows terms (Ok n) rows' terms' = (p : Tree) × Writes p t × Hold p rows' terms' × (n ≡ length (flat_rows p)) × (enough rows terms ≡ true)
Accepts t rows terms (Err f) rows' terms' = enough rows terms ≡ true → (p : Tree) → Writes p t → ⊥

-- reading a text gives the flat form of the program that it is the writing of, and no text but such a writing is read
pub record Inverts (t : List ℕ) : Type 0 where
  pub read_is_written : (s : Tables) → reading t ≡ Ok s → (p : Tree) × Writes p t × (s ≡ flat p)
  pub written_is_read : (p : Tree) → Writes p t → reading t ≡ Ok (flat p)

abbrev pub ReadingInvertsWriting : Type 0
ReadingInvertsWriting = (t : List ℕ) → Inverts t

-- the flat form of a program tells the program
abbrev pub FlatFormTellsTheProgram : Type 0
FlatFormTellsTheProgram = (p : Tree) → Within p → tree_of (flat_rows p) (flat_terms p) ≡ p

-- no text is the writing of two programs
abbrev pub TextTellsTheProgram : Type 0
TextTellsTheProgram = (t : List ℕ) (p q : Tree) → Writes p t → Writes q t → p ≡ q
