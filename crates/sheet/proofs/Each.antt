-- Levels that are each below a count. Assumes nothing.
use Rattle.std.proofs.Common.{◌≡◌, ℕ, zero, suc, ◌<◌, ◌≤◌, true, ltb, List, [], ◌∷◌, get_or}
use Rattle.std.proofs.lemmas.Bool.{and_parts, ltb-true}
use Rattle.levels.specs.Scheme.{Levels, Lattice}
use Rattle.sheet.specs.declared.LevelSheet.{LevelSheet}
use Rattle.sheet.specs.Sheets.{channel_level, each_below, has_sheet}

-- what stands at any place is below the count, past the end too
pub each_below_at : (n : ℕ) (xs : List ℕ) → 1 ≤ n → each_below n xs ≡ true → (k : ℕ) → get_or xs k 0 < n
each_below_at n [] some all k = some
each_below_at n (x ∷ xs) some all zero = ltb-true x n (and_parts (ltb x n) (each_below n xs) all).0
each_below_at n (x ∷ xs) some all (suc k) = each_below_at n xs some (and_parts (ltb x n) (each_below n xs) all).1 k

-- a scheme that has every level of a sheet has the level of each channel
pub channel_level_below : {L : Levels} → Lattice L → (sheet : LevelSheet) → has_sheet L sheet ≡ true → (channel : ℕ) → channel_level sheet channel < L.count
channel_level_below {L} laws sheet has channel =
    each_below_at L.count sheet.channels laws.sized.0 (and_parts (each_below L.count sheet.channels) _ has).0 channel
