-- The levels of channels and variables in a scheme. Assumes nothing.
use Rattle.std.specs.Prelude.{ℕ, ◌<◌, slice_index}
use Rattle.levels.specs.Scheme.{Levels, Below, Lattice}
use Rattle.sheet.specs.declared.LevelSheet.{LevelSheet}
use Rattle.sheet.specs.Sheets.{channel_level}

pub record Labels : Type 0 where
  pub scheme : Levels
  pub of_channel : ℕ → ℕ
  pub of_variable : ℕ → ℕ

-- what a sheet gives
abbrev pub labels_of : Levels → LevelSheet → Labels
labels_of L sheet = record { scheme = L; of_channel = channel_level sheet; of_variable = λ v. slice_index sheet.variables v }

-- the scheme has its laws, and every level that is given
pub record Lawful (labels : Labels) : Type 0 where
  pub lattice : Lattice labels.scheme
  pub channels : (c : ℕ) → labels.of_channel c < labels.scheme.count
  pub variables : (v : ℕ) → labels.of_variable v < labels.scheme.count

-- a is at or below b
abbrev pub Under : Labels → ℕ → ℕ → Type 0
Under labels = Below labels.scheme
