-- Lines are put one behind the other exactly if no name comes twice and the scheme has their levels. Assumes nothing.
use Rattle.std.proofs.Common.{◌≡◌, ℕ, ◌+◌, ◌<◌, ◌≤◌, Bool, true, false, cond, ltb, List, [], ◌∷◌, ◌++◌, Ok, Err, sym, refl, ◌∙◌, subst, append_assoc, append-nil, arith}
use Rattle.std.proofs.lemmas.Bool.{cond-true, cond-false, or_parts, or_from, ltb-true, lt-ltb, le-ltb}
use Rattle.std.specs.List.{AllByRecursion}
use Rattle.fault.proofs.Then.{same_ok, cond_ok}
use Rattle.levels.specs.Scheme.{Levels}
use Rattle.text.specs.Building.{Built}
use Rattle.text.specs.Places.{twice_at, level_at}
use Rattle.sheet_reader.specs.declared.line.SheetLine.{SheetLine}
use Rattle.sheet_reader.specs.Naming.{same_name, has_name}
use Rattle.sheet_reader.specs.Reading.{add}
use Rattle.sheet_reader.specs.Writing.{Once}
use Rattle.sheet_reader.proofs.Names.{different, differ, has_name_push}

module _ (L : Levels) where
  -- one line
  by_tests : (ls us : List SheetLine) (n : ℕ) (l : SheetLine) (b : Bool) → has_name ls l.name ≡ b
      → cond b (Err (twice_at n)) (cond (ltb l.level L.count) (Ok (ls ++ l ∷ [])) (Err (level_at n 3))) ≡ Ok us
      → (has_name ls l.name ≡ false) × (l.level < L.count) × (ls ++ l ∷ [] ≡ us)
  by_tests ls us n l true s e = let z : ◌≡◌ {A = ℕ} 0 1 = cc in absurd (omega arith)
  by_tests ls us n l false s e =
      let a = cond_ok (ltb l.level L.count) (Ok (ls ++ l ∷ [])) (level_at n 3) us e in
      (s, ltb-true l.level L.count a.0, same_ok (ls ++ l ∷ []) us a.1)

  pub name_comes_twice : (ls : List SheetLine) (n : ℕ) (l : SheetLine) → has_name ls l.name ≡ true → add L ls n l ≡ Err (twice_at n)
  name_comes_twice ls n l old = cond-true (has_name ls l.name) _ _ old

  pub level_is_lacking : (ls : List SheetLine) (n : ℕ) (l : SheetLine) → has_name ls l.name ≡ false → L.count ≤ l.level → add L ls n l ≡ Err (level_at n 3)
  level_is_lacking ls n l new le = cond-false (has_name ls l.name) _ _ new ∙ cond-false (ltb l.level L.count) _ _ (le-ltb l.level L.count le)

  pub line_is_added : (ls : List SheetLine) (n : ℕ) (l : SheetLine) → has_name ls l.name ≡ false → l.level < L.count → add L ls n l ≡ Ok (ls ++ l ∷ [])
  line_is_added ls n l new lt = cond-false (has_name ls l.name) _ _ new ∙ cond-true (ltb l.level L.count) _ _ (lt-ltb l.level L.count lt)

  -- the lines ls can follow the lines before: no name of theirs was there, and none comes twice
  pub record Follows (before ls : List SheetLine) : Type 0 where
    pub new : AllByRecursion (λ k. has_name before k.name ≡ false) ls
    pub once : Once ls
    pub levels : AllByRecursion (λ k. k.level < L.count) ls

  -- what is new behind one line more
  apart : (before : List SheetLine) (l k : SheetLine) → has_name (before ++ l ∷ []) k.name ≡ false → (same_name l.name k.name ≡ false) × (has_name before k.name ≡ false)
  apart before l k e = or_parts (same_name l.name k.name) (has_name before k.name) (sym (has_name_push before l k.name) ∙ e)

  split_new : (before : List SheetLine) (l : SheetLine) (ls : List SheetLine) → AllByRecursion (λ k. has_name (before ++ l ∷ []) k.name ≡ false) ls
      → AllByRecursion (λ k. l.name ≡ k.name → ⊥) ls × AllByRecursion (λ k. has_name before k.name ≡ false) ls
  split_new before l [] h = (tt, tt)
  split_new before l (k ∷ ks) h =
      let a = apart before l k h.0 in
      let r = split_new before l ks h.1 in
      ((differ l.name k.name a.0, r.0), (a.1, r.1))

  join_new : (before : List SheetLine) (l : SheetLine) (ls : List SheetLine) → AllByRecursion (λ k. l.name ≡ k.name → ⊥) ls → AllByRecursion (λ k. has_name before k.name ≡ false) ls
      → AllByRecursion (λ k. has_name (before ++ l ∷ []) k.name ≡ false) ls
  join_new before l [] h g = tt
  join_new before l (k ∷ ks) h g =
      (has_name_push before l k.name ∙ or_from (same_name l.name k.name) (has_name before k.name) (different l.name k.name h.0) g.0, join_new before l ks h.1 g.1)

  pub built_follows : (before us : List SheetLine) (n : ℕ) (ls : List SheetLine) → Built (add L) before n ls us → (before ++ ls ≡ us) × Follows before ls
  built_follows before us n [] e = (append-nil before ∙ e, record { new = tt; once = tt; levels = tt })
  built_follows before us n (l ∷ ls) e =
      let a = by_tests before e.0 (n + 1) l (has_name before l.name) refl e.1 in
      let r = built_follows (before ++ l ∷ []) us (n + 1) ls (subst (λ (x : List SheetLine). Built (add L) x (n + 1) ls us) (sym a.2) e.2) in
      let s = split_new before l ls r.1.new in (
        sym (append_assoc before (l ∷ []) ls) ∙ r.0,
        record { new = (a.0, s.1); once = (s.0, r.1.once); levels = (a.1, r.1.levels) },
      )

  pub following_is_built : (before : List SheetLine) (n : ℕ) (ls : List SheetLine) → Follows before ls → Built (add L) before n ls (before ++ ls)
  following_is_built before n [] h = sym (append-nil before)
  following_is_built before n (l ∷ ls) h = (
    before ++ l ∷ [],
    line_is_added before (n + 1) l h.new.0 h.levels.0,
    subst (λ (x : List SheetLine). Built (add L) (before ++ l ∷ []) (n + 1) ls x) (append_assoc before (l ∷ []) ls)
        (following_is_built (before ++ l ∷ []) (n + 1) ls (record { new = join_new before l ls h.once.0 h.new.1; once = h.once.1; levels = h.levels.1 })),
  )

pub all_new : (ls : List SheetLine) → AllByRecursion (λ k. has_name [] k.name ≡ false) ls
all_new [] = tt
all_new (l ∷ ls) = (refl, all_new ls)
