-- The levels that lines give to a sheet. Assumes nothing.
use Rattle.std.proofs.Common.{◌≡◌, ℕ, zero, suc, ◌<◌, true, ltb, List, [], ◌∷◌, length, set, replicate, refl, ap, ◌∙◌, arith}
use Rattle.std.proofs.lemmas.List.{length-set, length-replicate, get_or-set_same, get_or-set_other, get_or-replicate}
use Rattle.std.proofs.lemmas.Bool.{and_parts, and_from, lt-ltb}
use Rattle.std.specs.List.{AllByRecursion}
use Rattle.levels.specs.Scheme.{Levels, Lattice}
use Rattle.levels.specs.Lattices.{lowest_level}
use Rattle.sheet.specs.declared.LevelSheet.{LevelSheet}
use Rattle.sheet.specs.Sheets.{uniform, each_below, has_sheet}
use Rattle.sheet_reader.specs.declared.line.Name.{Name}
use Rattle.sheet_reader.specs.declared.line.Name.TheVariants.{Channel, Variable}
use Rattle.sheet_reader.specs.declared.line.SheetLine.{SheetLine}
use Rattle.sheet_reader.specs.Naming.{FitName, level_of, given, all_given, sheet_of}
use Rattle.sheet_reader.specs.Writing.{Fit, Once, LinesGiveLevels, SheetFor}

-- a sheet has a place for each name, and keeps it
pub record Whole (sheet : LevelSheet) : Type 0 where
  pub channels : length sheet.channels ≡ 32
  pub variables : length sheet.variables ≡ 16

uniform_is_whole : (low : ℕ) → Whole (uniform low)
uniform_is_whole low = record { channels = length-replicate 32 low; variables = length-replicate 16 low }

given_is_whole : (sheet : LevelSheet) (m : Name) (level : ℕ) → Whole sheet → Whole (given sheet m level)
given_is_whole sheet (Channel c) level w = record { channels = length-set sheet.channels c level ∙ w.channels; variables = w.variables }
given_is_whole sheet (Variable v) level w = record { channels = w.channels; variables = length-set sheet.variables v level ∙ w.variables }

-- one level
uniform_level : (low : ℕ) (m : Name) → FitName m → level_of (uniform low) m ≡ low
uniform_level low (Channel c) f = get_or-replicate 32 c low 0 f
uniform_level low (Variable v) f = get_or-replicate 16 v low 0 f

level_given : (sheet : LevelSheet) (m : Name) (level : ℕ) → Whole sheet → FitName m → level_of (given sheet m level) m ≡ level
level_given sheet (Channel c) level w f = let n = w.channels in get_or-set_same sheet.channels c level 0 (omega arith)
level_given sheet (Variable v) level w f = let n = w.variables in get_or-set_same sheet.variables v level 0 (omega arith)

other_level : (sheet : LevelSheet) (m k : Name) (level : ℕ) → (k ≡ m → ⊥) → level_of (given sheet m level) k ≡ level_of sheet k
other_level sheet (Channel c) (Channel d) level h = get_or-set_other sheet.channels c d level 0 (λ e. h (ap (λ x. Channel x) e))
other_level sheet (Channel c) (Variable w) level h = refl
other_level sheet (Variable v) (Channel d) level h = refl
other_level sheet (Variable v) (Variable w) level h = get_or-set_other sheet.variables v w level 0 (λ e. h (ap (λ x. Variable x) e))

-- the levels of all lines
other_levels : (sheet : LevelSheet) (ls : List SheetLine) (m : Name) → AllByRecursion (λ l. m ≡ l.name → ⊥) ls → level_of (all_given sheet ls) m ≡ level_of sheet m
other_levels sheet [] m h = refl
other_levels sheet (l ∷ ls) m h = other_levels (given sheet l.name l.level) ls m h.1 ∙ other_level sheet l.name m l.level h.0

levels_given : (sheet : LevelSheet) (ls : List SheetLine) → Whole sheet → AllByRecursion Fit ls → Once ls → AllByRecursion (λ l. level_of (all_given sheet ls) l.name ≡ l.level) ls
levels_given sheet [] w f o = tt
levels_given sheet (l ∷ ls) w f o =
    let next = given sheet l.name l.level in (
      other_levels next ls l.name o.0 ∙ level_given sheet l.name l.level w f.0.name,
      levels_given next ls (given_is_whole sheet l.name l.level w) f.1 o.1,
    )

pub lines_give_levels : LinesGiveLevels
lines_give_levels low ls f o = (levels_given (uniform low) ls (uniform_is_whole low) f o, λ m fit h. other_levels (uniform low) ls m h ∙ uniform_level low m fit)

-- a scheme that has the level of each line has every level of the sheet
each_below_set : (n : ℕ) (xs : List ℕ) (i x : ℕ) → x < n → each_below n xs ≡ true → each_below n (set xs i x) ≡ true
each_below_set n [] i x lt all = refl
each_below_set n (y ∷ ys) zero x lt all = and_from (ltb x n) (each_below n ys) (lt-ltb x n lt) (and_parts (ltb y n) (each_below n ys) all).1
each_below_set n (y ∷ ys) (suc i) x lt all =
    let a = and_parts (ltb y n) (each_below n ys) all in
    and_from (ltb y n) (each_below n (set ys i x)) a.0 (each_below_set n ys i x lt a.1)

each_below_replicate : (n k x : ℕ) → x < n → each_below n (replicate k x) ≡ true
each_below_replicate n zero x lt = refl
each_below_replicate n (suc k) x lt = and_from (ltb x n) (each_below n (replicate k x)) (lt-ltb x n lt) (each_below_replicate n k x lt)

module _ (L : Levels) where
  given_has_levels : (sheet : LevelSheet) (m : Name) (level : ℕ) → level < L.count → has_sheet L sheet ≡ true → has_sheet L (given sheet m level) ≡ true
  given_has_levels sheet (Channel c) level lt h =
      let a = and_parts (each_below L.count sheet.channels) (each_below L.count sheet.variables) h in
      and_from _ (each_below L.count sheet.variables) (each_below_set L.count sheet.channels c level lt a.0) a.1
  given_has_levels sheet (Variable v) level lt h =
      let a = and_parts (each_below L.count sheet.channels) (each_below L.count sheet.variables) h in
      and_from (each_below L.count sheet.channels) _ a.0 (each_below_set L.count sheet.variables v level lt a.1)

  all_have_levels : (sheet : LevelSheet) (ls : List SheetLine) → AllByRecursion (λ l. l.level < L.count) ls → has_sheet L sheet ≡ true → has_sheet L (all_given sheet ls) ≡ true
  all_have_levels sheet [] lt h = h
  all_have_levels sheet (l ∷ ls) lt h = all_have_levels (given sheet l.name l.level) ls lt.1 (given_has_levels sheet l.name l.level lt.0 h)

  pub scheme_has_sheet : Lattice L → (ls : List SheetLine) → SheetFor L ls → has_sheet L (sheet_of L.lowest ls) ≡ true
  scheme_has_sheet laws ls s =
      let low = lowest_level laws in
      all_have_levels (uniform L.lowest) ls s.levels
      (and_from (each_below L.count (replicate 32 L.lowest)) _ (each_below_replicate L.count 32 L.lowest low) (each_below_replicate L.count 16 L.lowest low))
