-- A flag for each name, which tells whether a line has it: so lines with a name each are at most 48. Assumes nothing.
use Rattle.std.proofs.Common.{◌≡◌, ℕ, ◌+◌, ◌<◌, ◌≤◌, Bool, true, false, cond, ◌||◌, List, [], ◌∷◌, ◌++◌, length, get_or, set, replicate, count_by, sym, refl, ap, ◌∙◌, arith}
use Rattle.std.proofs.lemmas.List.{length-set, length-replicate, get_or-set_same, get_or-set_other, get_or-replicate}
use Rattle.std.proofs.lemmas.List.Sums.{sum_by-set, count_by-le-length}
use Rattle.std.specs.List.{AllByRecursion}
use Rattle.sheet_reader.specs.declared.line.Name.{Name}
use Rattle.sheet_reader.specs.declared.line.SheetLine.{SheetLine}
use Rattle.sheet_reader.specs.Naming.{FitName, place_of, same_name, has_name}
use Rattle.sheet_reader.specs.Writing.{Fit, Once}
use Rattle.sheet_reader.proofs.Names.{same_is, differ, place_below, places_tell, has_name_push, unnamed}

-- there is a flag for each name, which tells whether a line has it
pub record Tells (flags : List Bool) (ls : List SheetLine) : Type 0 where
  pub long : length flags ≡ 48
  pub tells : (m : Name) → FitName m → get_or flags (place_of m) false ≡ has_name ls m

pub tells_none : Tells (replicate 48 false) []
tells_none = record { long = length-replicate 48 false; tells = λ m f. get_or-replicate 48 (place_of m) false false (place_below m f) }

module _ {flags : List Bool} {ls : List SheetLine} (t : Tells flags ls) (l : SheetLine) (f : FitName l.name) where
  tells_at : (m : Name) → FitName m → (b : Bool) → same_name l.name m ≡ b → get_or (set flags (place_of l.name) true) (place_of m) false ≡ (b || has_name ls m)
  tells_at m g true e =
      let p = place_below l.name f in
      let n = t.long in
      ap (λ k. get_or (set flags (place_of l.name) true) (place_of k) false) (sym (same_is l.name m e))
      ∙ get_or-set_same flags (place_of l.name) true false (omega arith)
  tells_at m g false e =
      get_or-set_other flags (place_of l.name) (place_of m) true false (λ same. differ l.name m e (places_tell l.name m f g (sym same)))
      ∙ t.tells m g

  tells_more : Tells (set flags (place_of l.name) true) (l ∷ ls)
  tells_more = record { long = length-set flags (place_of l.name) true ∙ t.long; tells = λ m g. tells_at m g (same_name l.name m) refl }

  pub tells_push : Tells (set flags (place_of l.name) true) (ls ++ l ∷ [])
  tells_push = record { long = tells_more.long; tells = λ m g. tells_more.tells m g ∙ sym (has_name_push ls l m) }

-- lines with a name each are as many as the flags that they raise
one_more_raised : (flags : List Bool) (i : ℕ) → i < length flags → get_or flags i false ≡ false → count_by (λ b. b) (set flags i true) ≡ count_by (λ b. b) flags + 1
one_more_raised flags i lt e =
    let s = sum_by-set (λ b. cond {A = ℕ} b 1 0) flags i true false lt in
    let z : cond {A = ℕ} (get_or flags i false) 1 0 ≡ 0 = ap (λ b. cond {A = ℕ} b 1 0) e in
    omega arith

flags_of : (ls : List SheetLine) → AllByRecursion Fit ls → Once ls → (flags : List Bool) × Tells flags ls × (count_by (λ b. b) flags ≡ length ls)
flags_of [] f o = (replicate 48 false, tells_none, refl)
flags_of (l ∷ ls) f o =
    let r = flags_of ls f.1 o.1 in
    let n = r.1.long in
    let p = place_below l.name f.0.name in
    let c = r.2 in
    let q = one_more_raised r.0 (place_of l.name) (omega arith) (r.1.tells l.name f.0.name ∙ unnamed l.name ls o.0) in
    (set r.0 (place_of l.name) true, tells_more r.1 l f.0.name, omega arith)

pub once_is_few : (ls : List SheetLine) → AllByRecursion Fit ls → Once ls → length ls ≤ 48
once_is_few ls f o =
    let r = flags_of ls f o in
    let n = r.1.long in
    let c = r.2 in
    let b = count_by-le-length (λ b. b) r.0 in
    omega arith
