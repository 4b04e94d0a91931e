-- What follows from lawful labels. Assumes nothing.
use Rattle.std.proofs.Common.{◌≡◌, ℕ, ◌<◌, true}
use Rattle.std.proofs.lemmas.Bool.{and_parts}
use Rattle.levels.specs.Scheme.{Levels, Least, Lattice}
use Rattle.levels.specs.Lattices.{lowest_level, join_level}
use Rattle.sheet.specs.declared.LevelSheet.{LevelSheet}
use Rattle.sheet.specs.Sheets.{each_below, has_sheet}
use Rattle.sheet.proofs.Each.{each_below_at, channel_level_below}
use Rattle.language.specs.Expression.{Expr, input, constant, variable, binary}
use Rattle.typing.specs.Labels.{Labels, labels_of, Lawful, Under}
use Rattle.typing.specs.Rule.{level_of, raised}

-- a scheme that has every level of a sheet makes its labels lawful
pub labels_lawful : {L : Levels} → Lattice L → (sheet : LevelSheet) → has_sheet L sheet ≡ true → Lawful (labels_of L sheet)
labels_lawful {L} laws sheet has = record {
  lattice = laws;
  channels = channel_level_below laws sheet has;
  variables = each_below_at L.count sheet.variables laws.sized.0 (and_parts (each_below L.count sheet.channels) _ has).1;
}

module _ {labels : Labels} (ok : Lawful labels) where
  pub under_trans : {a b c : ℕ} → Under labels a b → Under labels b c → Under labels a c
  under_trans {a} {b} {c} p q = ok.lattice.transitive a b c p q

  pub under_self : {a : ℕ} → a < labels.scheme.count → Under labels a a
  under_self {a} h = ok.lattice.reflexive a h

  pub lower_level : {a b : ℕ} → Under labels a b → a < labels.scheme.count
  lower_level {a} {b} p = (ok.lattice.proper a b p).0

  pub upper_level : {a b : ℕ} → Under labels a b → b < labels.scheme.count
  upper_level {a} {b} p = (ok.lattice.proper a b p).1

  module _ (x : ℕ) (hx : x < labels.scheme.count) where
    -- the level of an expression is one
    pub level_of_level : (e : Expr) → level_of labels x e < labels.scheme.count
    level_of_level input = hx
    level_of_level (constant k) = lowest_level ok.lattice
    level_of_level (variable v) = ok.variables v
    level_of_level (binary o a b) = join_level ok.lattice (level_of labels x a) (level_of labels x b) (level_of_level a) (level_of_level b)

    pub binary_least : (a b : Expr) → Least labels.scheme (level_of labels x a) (level_of labels x b) (labels.scheme.join (level_of labels x a) (level_of labels x b))
    binary_least a b = ok.lattice.joins (level_of labels x a) (level_of labels x b) (level_of_level a) (level_of_level b)

    pub raised_least : (g : ℕ) → g < labels.scheme.count → (e : Expr) → Least labels.scheme g (level_of labels x e) (raised labels x g e)
    raised_least g hg e = ok.lattice.joins g (level_of labels x e) hg (level_of_level e)
