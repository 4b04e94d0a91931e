-- Names, their places, and whether a line has one. Assumes nothing.
use Rattle.std.proofs.Common.{◌≡◌, ◌<◌, Bool, true, false, ◌||◌, List, [], ◌∷◌, ◌++◌, sym, refl, ap, ◌∙◌, ⊎_elim, arith}
use Rattle.std.proofs.lemmas.Bool.{cases_Bool, both_ways, eqb-true, eq-eqb, false≢true}
use Rattle.std.specs.List.{AllByRecursion}
use Rattle.sheet_reader.specs.declared.line.Name.{Name}
use Rattle.sheet_reader.specs.declared.line.Name.TheVariants.{Channel, Variable}
use Rattle.sheet_reader.specs.declared.line.SheetLine.{SheetLine}
use Rattle.sheet_reader.specs.Naming.{FitName, place_of, same_name, has_name}

-- the test decides
pub same_is : (m k : Name) → same_name m k ≡ true → m ≡ k
same_is (Channel c) (Channel d) e = ap (λ x. Channel x) (eqb-true c d e)
same_is (Channel c) (Variable w) e = absurd (false≢true e)
same_is (Variable v) (Channel d) e = absurd (false≢true e)
same_is (Variable v) (Variable w) e = ap (λ x. Variable x) (eqb-true v w e)

itself : (m : Name) → same_name m m ≡ true
itself (Channel c) = eq-eqb c c refl
itself (Variable v) = eq-eqb v v refl

pub different : (m k : Name) → (m ≡ k → ⊥) → same_name m k ≡ false
different m k h = ⊎_elim (λ t. absurd (h (same_is m k t))) (λ f. f) (cases_Bool (same_name m k))

pub differ : (m k : Name) → same_name m k ≡ false → m ≡ k → ⊥
differ m k e h = both_ways (same_name m k) e (ap (same_name m) (sym h) ∙ itself m)

-- each name has a place of its own
pub place_below : (m : Name) → FitName m → place_of m < 48
place_below (Channel c) f = omega arith
place_below (Variable v) f = omega arith

pub places_tell : (m k : Name) → FitName m → FitName k → place_of m ≡ place_of k → m ≡ k
places_tell (Channel c) (Channel d) f g e = ap (λ x. Channel x) e
places_tell (Channel c) (Variable w) f g e = absurd (omega arith)
places_tell (Variable v) (Channel d) f g e = absurd (omega arith)
places_tell (Variable v) (Variable w) f g e = let q : v ≡ w = omega arith in ap (λ x. Variable x) q

-- a line at the end
or_swap : (a b c : Bool) → (a || (b || c)) ≡ (b || (a || c))
or_swap true true c = refl
or_swap true false c = refl
or_swap false b c = refl

pub has_name_push : (ls : List SheetLine) (l : SheetLine) (m : Name) → has_name (ls ++ l ∷ []) m ≡ (same_name l.name m || has_name ls m)
has_name_push [] l m = refl
has_name_push (k ∷ ks) l m = ap (λ b. same_name k.name m || b) (has_name_push ks l m) ∙ or_swap (same_name k.name m) (same_name l.name m) (has_name ks m)

-- a name that differs from that of every line
pub unnamed : (m : Name) (ls : List SheetLine) → AllByRecursion (λ k. m ≡ k.name → ⊥) ls → has_name ls m ≡ false
unnamed m [] h = refl
unnamed m (k ∷ ks) h = ap (λ b. b || has_name ks m) (different k.name m (λ e. h.0 (sym e))) ∙ unnamed m ks h.1
