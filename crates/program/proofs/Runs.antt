-- Lines put one after the other, with no word of their numbers. Assumes nothing.
use Rattle.std.proofs.Common.{◌≡◌, ℕ, ◌+◌, ◌<◌, ◌≤◌, true, false, cond, leb, List, [], ◌∷◌, ◌++◌, length, Some, Ok, Err, sym, ap, ◌∙◌, subst, arith, length-append}
use Rattle.std.proofs.lemmas.Bool.{leb-true, leb-false}
use Rattle.fault.specs.Faults.{then}
use Rattle.fault.proofs.Then.{same_ok}
use Rattle.text.specs.Building.{Built}
use Rattle.text.specs.Places.{nest_at, twice_at, full_at}
use Rattle.text.specs.Reading.{or_refused}
use Rattle.program.specs.declared.rows.Term.{Term}
use Rattle.program.specs.Lines.{Line}
use Rattle.program.specs.Building.{Tables, nested, is_twice, has_room, added, build}
use Rattle.program.specs.Writing.{all_terms}
use Rattle.program.proofs.Cases.{split}
use Rattle.program.proofs.Tables.{Pair, build_ok, terms_after, length_after}

-- the line l leads from s to t, whatever its number
abbrev pub Steps : Tables → Line → Tables → Type 0
Steps s l t = (n : ℕ) → build s n l ≡ Ok t

abbrev pub Runs : Tables → List Line → Tables → Type 0
Runs s [] t = s ≡ t
Runs s (l ∷ ls) t = (u : Tables) × Steps s l u × Runs u ls t

pub steps : (s : Tables) (l : Line) (p : Pair) → nested s.rows s.stack (length s.rows) l.0 ≡ Some p → is_twice l.0 s.rows ≡ false → has_room s l.1 ≡ true → Steps s l (added s l p)
steps s l p e w r n =
    ap (λ o. then (or_refused (nest_at n) o) (λ p. cond (is_twice l.0 s.rows) (Err (twice_at n)) (cond (has_room s l.1) (Ok (added s l p)) (Err (full_at n))))) e
    ∙ ap (λ b. cond b (Err (twice_at n)) (cond (has_room s l.1) (Ok (added s l p)) (Err (full_at n)))) w
    ∙ ap (λ b. cond b (Ok (added s l p)) (Err (full_at n))) r

one_number : (s : Tables) (n : ℕ) (l : Line) (t : Tables) → build s n l ≡ Ok t → Steps s l t
one_number s n l t e = let b = build_ok s n l t e in subst (λ (u : Tables). Steps s l u) b.2 (steps s l b.0 b.1 b.3 b.4)

pub built_runs : (s : Tables) (n : ℕ) (ls : List Line) (t : Tables) → Built build s n ls t → Runs s ls t
built_runs s n [] t h = h
built_runs s n (l ∷ ls) t h = (h.0, one_number s (n + 1) l h.0 h.1, built_runs h.0 (n + 1) ls t h.2)

pub runs_built : (s : Tables) (n : ℕ) (ls : List Line) (t : Tables) → Runs s ls t → Built build s n ls t
runs_built s n [] t h = h
runs_built s n (l ∷ ls) t h = (h.0, h.1 (n + 1), runs_built h.0 (n + 1) ls t h.2)

pub runs_append : (s u t : Tables) (xs ys : List Line) → Runs s xs u → Runs u ys t → Runs s (xs ++ ys) t
runs_append s u t [] ys f g = subst (λ (x : Tables). Runs x ys t) (sym f) g
runs_append s u t (x ∷ xs) ys f g = (f.0, f.1, runs_append f.0 u t xs ys f.2 g)

pub runs_lead_to_one : (s t u : Tables) (ls : List Line) → Runs s ls t → Runs s ls u → t ≡ u
runs_lead_to_one s t u [] f g = sym f ∙ g
runs_lead_to_one s t u (l ∷ ls) f g =
    let e : f.0 ≡ g.0 = same_ok f.0 g.0 (sym (f.1 0) ∙ g.1 0) in
    runs_lead_to_one g.0 t u ls (subst (λ (x : Tables). Runs x ls t) e f.2) g.2

-- rows and terms stay within their limits
room_says : (s : Tables) (ts : List Term) → has_room s ts ≡ true → (length s.rows < 128) × (length s.terms + length ts ≤ 512)
room_says s ts e =
    split (leb 128 (length s.rows)) false (leb (length s.terms + length ts) 512) true e
    (λ _ h. cc)
    (λ a h. (leb-false 128 (length s.rows) a, leb-true (length s.terms + length ts) 512 h))

pub runs_are_few : (s t : Tables) (ls : List Line) → length s.rows ≤ 128 → length s.terms ≤ 512 → Runs s ls t → (length s.rows + length ls ≤ 128) × (length s.terms + length (all_terms ls) ≤ 512)
runs_are_few s t [] a b h = (omega arith, omega arith)
runs_are_few s t (l ∷ ls) a b h =
    let x = build_ok s 0 l h.0 (h.1 0) in
    let r = room_says s l.1 x.4 in
    let r0 = r.0 in
    let r1 = r.1 in
    let j = length_after s 0 l h.0 (h.1 0) in
    let u : length h.0.terms ≡ length s.terms + length l.1 = ap length (terms_after s 0 l h.0 (h.1 0)) ∙ length-append s.terms l.1 in
    let q = runs_are_few h.0 t ls (omega arith) (omega arith) h.2 in
    let q0 = q.0 in
    let q1 = q.1 in
    let long = length-append l.1 (all_terms ls) in
    (omega arith, omega arith)
