-- The lines of a program lead to its flat form. Assumes nothing.
use Rattle.std.proofs.Common.{◌≡◌, ℕ, ◌+◌, ◌-◌, ◌<◌, ◌≤◌, true, false, cond, ◌||◌, eqb, leb, List, [], ◌∷◌, ◌++◌, length, get_or, Some, None, sym, refl, ap, ◌∙◌, subst, append_assoc, append-nil, arith, length-append}
use Rattle.std.proofs.lemmas.List.{length_push, get_or_at, set_at}
use Rattle.std.proofs.lemmas.Bool.{le-leb, lt-leb}
use Rattle.std.proofs.lemmas.List.Folds.{list_any-append}
use Rattle.std.proofs.Math.Bool.{or_comm}
use Rattle.std.specs.List.{AllByRecursion}
use Rattle.language.specs.Block.{Block, done, skip, assign, output, branch, repeat, Tree}
use Rattle.language.specs.Expression.{Expr}
use Rattle.program.specs.declared.rows.Kind.{Kind}
use Rattle.program.specs.declared.rows.Kind.TheVariants as kind
use Rattle.program.specs.declared.rows.Row.{Row}
use Rattle.program.specs.declared.rows.Term.{Term}
use Rattle.program.specs.Lines.{Line}
use Rattle.program.specs.Building.{blank_row, Tables, tables, start, linked_at, is_if, opens, nested, is_handler_of, has_handler, is_twice, has_room}
use Rattle.program.specs.Laws.{flat}
use Rattle.program.specs.Writing.{terms_of, else_line, close_line, block_lines, lines_of, all_terms, row, width, block_rows, tree_rows, FitBlock, FitHandler, is_listed, Once, Within}
use Rattle.program.proofs.Runs.{Steps, Runs, steps, runs_append}

-- the terms of lines
pub all_terms_append : (xs ys : List Line) → all_terms (xs ++ ys) ≡ all_terms xs ++ all_terms ys
all_terms_append [] ys = refl
all_terms_append (x ∷ xs) ys = ap (λ l. x.1 ++ l) (all_terms_append xs ys) ∙ sym (append_assoc x.1 (all_terms xs) (all_terms ys))

width_closed : (xs ys : List Line) → length (all_terms (xs ++ close_line ∷ ys)) ≡ length (all_terms xs) + length (all_terms ys)
width_closed xs ys = ap length (all_terms_append xs (close_line ∷ ys)) ∙ length-append (all_terms xs) (all_terms ys)

width_parted : (xs ys : List Line) → length (all_terms (xs ++ else_line ∷ ys)) ≡ length (all_terms xs) + length (all_terms ys)
width_parted xs ys = ap length (all_terms_append xs (else_line ∷ ys)) ∙ length-append (all_terms xs) (all_terms ys)

-- a block has a row for each line
pub rows_like_lines : (j u : ℕ) (b : Block) → length (block_rows j u b) ≡ length (block_lines b)
rows_like_lines j u done = refl
rows_like_lines j u (skip k) = let h = rows_like_lines (j + 1) u k in omega arith
rows_like_lines j u (assign v e k) = let h = rows_like_lines (j + 1) (u + length (terms_of e)) k in omega arith
rows_like_lines j u (output c e k) = let h = rows_like_lines (j + 1) (u + length (terms_of e)) k in omega arith
rows_like_lines j u (branch true e p q k) =
    let a = rows_like_lines (j + 1) (u + length (terms_of e)) p in
    let b = rows_like_lines (j + 1 + length (block_rows (j + 1) (u + length (terms_of e)) p) + 1) (u + length (terms_of e) + width p) q in
    let c = rows_like_lines (j + 1 + length (block_rows (j + 1) (u + length (terms_of e)) p) + 1 + length (block_rows (j + 1 + length (block_rows (j + 1) (u + length (terms_of e)) p) + 1) (u + length (terms_of e) + width p) q) + 1) (u + length (terms_of e) + width p + width q) k in
    simp length-append (omega arith)
rows_like_lines j u (branch false e p q k) =
    let a = rows_like_lines (j + 1) (u + length (terms_of e)) p in
    let c = rows_like_lines (j + 1 + length (block_rows (j + 1) (u + length (terms_of e)) p) + 1) (u + length (terms_of e) + width p) k in
    simp length-append (omega arith)
rows_like_lines j u (repeat e p k) =
    let a = rows_like_lines (j + 1) (u + length (terms_of e)) p in
    let c = rows_like_lines (j + 1 + length (block_rows (j + 1) (u + length (terms_of e)) p) + 1) (u + length (terms_of e) + width p) k in
    simp length-append (omega arith)

room : (rows : List Row) (terms ts : List Term) (stack : List ℕ) → length rows < 128 → length terms + length ts ≤ 512 → has_room (tables rows terms stack) ts ≡ true
room rows terms ts stack a b =
    ap (λ t. cond t false (leb (length terms + length ts) 512)) (lt-leb 128 (length rows) a) ∙ le-leb (length terms + length ts) 512 b

-- tables that are written another way
same_tables : (r r' : List Row) (t t' : List Term) (st : List ℕ) → r ≡ r' → t ≡ t' → tables r t st ≡ tables r' t' st
same_tables r r' t t' st e f = ap (λ x. tables x t st) e ∙ ap (λ x. tables r' x st) f

-- one line where a block is open
module _ (rows : List Row) (terms : List Term) (o : ℕ) (os : List ℕ) where
  plain_step : (k : Kind) (ts : List Term) → nested rows (o ∷ os) (length rows) k ≡ Some (rows, o ∷ os) → is_twice k rows ≡ false → length rows < 128 → length terms + length ts ≤ 512 → Steps (tables rows terms (o ∷ os)) (k, ts) (tables (rows ++ row k (length terms) (length ts) 0 ∷ []) (terms ++ ts) (o ∷ os))
  plain_step k ts e w a b = steps (tables rows terms (o ∷ os)) (k, ts) (rows, o ∷ os) e w (room rows terms ts (o ∷ os) a b)

  opens_block : length os ≤ 7 → opens rows (o ∷ os) (length rows) ≡ Some (rows, length rows ∷ o ∷ os)
  opens_block h = ap (λ b. cond b None (Some (rows, length rows ∷ o ∷ os))) (lt-leb 9 (length (o ∷ os)) (omega arith))

  open_step : (k : Kind) (ts : List Term) → nested rows (o ∷ os) (length rows) k ≡ opens rows (o ∷ os) (length rows) → is_twice k rows ≡ false → length os ≤ 7 → length rows < 128 → length terms + length ts ≤ 512 → Steps (tables rows terms (o ∷ os)) (k, ts) (tables (rows ++ row k (length terms) (length ts) 0 ∷ []) (terms ++ ts) (length rows ∷ o ∷ os))
  open_step k ts e w d a b = steps (tables rows terms (o ∷ os)) (k, ts) (rows, length rows ∷ o ∷ os) (e ∙ opens_block d) w (room rows terms ts (o ∷ os) a b)

-- a row that closes what the row behind some rows opened, with a part between
module _ (rows : List Row) (k : Kind) (f c : ℕ) (inner : List Row) (terms : List Term) (os : List ℕ) where
  abbrev was : List Row
  was = rows ++ row k f c 0 ∷ inner

  long : length (rows ++ row k f c 0 ∷ inner) ≡ length rows + 1 + length inner
  long = let h = length-append rows (row k f c 0 ∷ inner) in omega arith

  linked : (p : ℕ) → linked_at (rows ++ row k f c 0 ∷ inner) (length rows) p ≡ rows ++ row k f c p ∷ inner
  linked p =
      ap (λ r. set_row r p) (get_or_at rows (row k f c 0) inner blank_row (length rows) refl)
      ∙ set_at rows (row k f c 0) inner (row k f c p) (length rows) refl
    where
      set_row : Row → ℕ → List Row
      set_row r p = lib.ListN.set (rows ++ row k f c 0 ∷ inner) (length rows) (record { kind = r.kind; first = r.first; count = r.count; partner = p })

  ended : (l : Kind) (m : ℕ) → m ≡ length terms → linked_at was (length rows) (length was) ++ row l (length terms) 0 0 ∷ [] ≡ rows ++ row k f c (length rows + 1 + length inner) ∷ (inner ++ row l m 0 0 ∷ [])
  ended l m e =
      ap (λ p. linked_at was (length rows) p ++ row l (length terms) 0 0 ∷ []) long
      ∙ ap (λ x. x ++ row l (length terms) 0 0 ∷ []) (linked (length rows + 1 + length inner))
      ∙ append_assoc rows (row k f c (length rows + 1 + length inner) ∷ inner) (row l (length terms) 0 0 ∷ [])
      ∙ ap (λ u. rows ++ row k f c (length rows + 1 + length inner) ∷ (inner ++ row l u 0 0 ∷ [])) (sym e)

  few : length rows + 1 + length inner < 128 → length was < 128
  few h = let l = long in omega arith

  close_step : (m : ℕ) → m ≡ length terms → length rows + 1 + length inner < 128 → length terms ≤ 512 → Steps (tables was terms (length rows ∷ os)) close_line (tables (rows ++ row k f c (length rows + 1 + length inner) ∷ (inner ++ row kind.Close m 0 0 ∷ [])) terms os)
  close_step m e a b =
      subst (λ (x : Tables). Steps (tables was terms (length rows ∷ os)) close_line x) (same_tables _ _ _ _ os (ended kind.Close m e) (append-nil terms))
      (steps (tables was terms (length rows ∷ os)) close_line (linked_at was (length rows) (length was), os) refl refl (room was terms [] (length rows ∷ os) (few a) (omega arith)))

  else_step : k ≡ kind.If → (m : ℕ) → m ≡ length terms → length rows + 1 + length inner < 128 → length terms ≤ 512 → Steps (tables was terms (length rows ∷ os)) else_line (tables ((rows ++ row k f c (length rows + 1 + length inner) ∷ inner) ++ row kind.Else m 0 0 ∷ []) terms (length (rows ++ row k f c (length rows + 1 + length inner) ∷ inner) ∷ os))
  else_step i m e a b =
      let q : is_if (get_or was (length rows) blank_row).kind ≡ true = ap (λ (r : Row). is_if r.kind) (get_or_at rows (row k f c 0) inner blank_row (length rows) refl) ∙ ap is_if i in
      let n = length-append rows (row k f c (length rows + 1 + length inner) ∷ inner) in
      let l : length was ≡ length (rows ++ row k f c (length rows + 1 + length inner) ∷ inner) = let h = long in omega arith in
      subst (λ (x : Tables). Steps (tables was terms (length rows ∷ os)) else_line x)
      (
      same_tables _ _ _ _ (length was ∷ os) (ended kind.Else m e ∙ sym (append_assoc rows (row k f c (length rows + 1 + length inner) ∷ inner) (row kind.Else m 0 0 ∷ []))) (append-nil terms)
      ∙ ap (λ n. tables ((rows ++ row k f c (length rows + 1 + length inner) ∷ inner) ++ row kind.Else m 0 0 ∷ []) terms (n ∷ os)) l
      )
      (steps (tables was terms (length rows ∷ os)) else_line (linked_at was (length rows) (length was), length was ∷ os)
      (ap (λ t. cond t (Some (linked_at was (length rows) (length was), length was ∷ os)) None) q) refl (room was terms [] (length rows ∷ os) (few a) (omega arith)))

-- a block behind these rows and terms
abbrev Blocked : List Row → List Term → List ℕ → Block → Tables
Blocked rows terms st b = tables (rows ++ block_rows (length rows) (length terms) b) (terms ++ all_terms (block_lines b)) st

pushed_rows : (rows : List Row) (r : Row) (u m : ℕ) (b : Block) → u ≡ m → (rows ++ r ∷ []) ++ block_rows (length (rows ++ r ∷ [])) u b ≡ rows ++ r ∷ block_rows (length rows + 1) m b
pushed_rows rows r u m b e =
    append_assoc rows (r ∷ []) (block_rows (length (rows ++ r ∷ [])) u b)
    ∙ ap (λ n. rows ++ r ∷ block_rows n u b) (length_push rows r)
    ∙ ap (λ n. rows ++ r ∷ block_rows (length rows + 1) n b) e

closed_rows : (rows : List Row) (r : Row) (inner : List Row) (c : Row) (f : ℕ → ℕ → List Row) (u m : ℕ) → u ≡ m → (rows ++ r ∷ (inner ++ c ∷ [])) ++ f (length (rows ++ r ∷ (inner ++ c ∷ []))) u ≡ rows ++ r ∷ (inner ++ c ∷ f (length rows + 1 + length inner + 1) m)
closed_rows rows r inner c f u m e =
    let a = length-append rows (r ∷ (inner ++ c ∷ [])) in
    let b = length_push inner c in
    let l : length (rows ++ r ∷ (inner ++ c ∷ [])) ≡ length rows + 1 + length inner + 1 = omega arith in
    append_assoc rows (r ∷ (inner ++ c ∷ [])) (f (length (rows ++ r ∷ (inner ++ c ∷ []))) u)
    ∙ ap (λ x. rows ++ r ∷ x) (append_assoc inner (c ∷ []) (f (length (rows ++ r ∷ (inner ++ c ∷ []))) u))
    ∙ ap (λ n. rows ++ r ∷ (inner ++ c ∷ f n u)) l
    ∙ ap (λ n. rows ++ r ∷ (inner ++ c ∷ f (length rows + 1 + length inner + 1) n)) e

-- a block behind the row that opens it
module _ (rows : List Row) (k : Kind) (f c : ℕ) (terms : List Term) (os : List ℕ) (p : Block) (m : ℕ) (e : length terms ≡ m) (ih : Runs (tables (rows ++ row k f c 0 ∷ []) terms (length rows ∷ os)) (block_lines p) (Blocked (rows ++ row k f c 0 ∷ []) terms (length rows ∷ os) p)) where
  inner_runs : Runs (tables (rows ++ row k f c 0 ∷ []) terms (length rows ∷ os)) (block_lines p) (tables (rows ++ row k f c 0 ∷ block_rows (length rows + 1) m p) (terms ++ all_terms (block_lines p)) (length rows ∷ os))
  inner_runs =
      subst (λ (x : Tables). Runs (tables (rows ++ row k f c 0 ∷ []) terms (length rows ∷ os)) (block_lines p) x)
      (ap (λ x. tables x (terms ++ all_terms (block_lines p)) (length rows ∷ os)) (pushed_rows rows (row k f c 0) (length terms) m p e)) ih

  -- and then the row that closes it, and others
  closed_runs : (ls : List Line) (t : Tables) → length rows + 1 + length (block_lines p) < 128 → m + width p ≤ 512 → Runs (tables (rows ++ row k f c (length rows + 1 + length (block_rows (length rows + 1) m p)) ∷ (block_rows (length rows + 1) m p ++ row kind.Close (m + width p) 0 0 ∷ [])) (terms ++ all_terms (block_lines p)) os) ls t → Runs (tables (rows ++ row k f c 0 ∷ []) terms (length rows ∷ os)) (block_lines p ++ close_line ∷ ls) t
  closed_runs ls t a b h =
      let n = rows_like_lines (length rows + 1) m p in
      let l = length-append terms (all_terms (block_lines p)) in
      runs_append (tables (rows ++ row k f c 0 ∷ []) terms (length rows ∷ os)) (tables (rows ++ row k f c 0 ∷ block_rows (length rows + 1) m p) (terms ++ all_terms (block_lines p)) (length rows ∷ os)) t (block_lines p) (close_line ∷ ls)
      inner_runs (
        tables (rows ++ row k f c (length rows + 1 + length (block_rows (length rows + 1) m p)) ∷ (block_rows (length rows + 1) m p ++ row kind.Close (m + width p) 0 0 ∷ [])) (terms ++ all_terms (block_lines p)) os,
        close_step rows k f c (block_rows (length rows + 1) m p) (terms ++ all_terms (block_lines p)) os (m + width p) (omega arith) (omega arith) (omega arith),
        h,
      )

after_line : (rows : List Row) (r : Row) (terms ts : List Term) (st : List ℕ) (k : Block) (m : ℕ) → length terms + length ts ≡ m → Runs (tables (rows ++ r ∷ []) (terms ++ ts) st) (block_lines k) (Blocked (rows ++ r ∷ []) (terms ++ ts) st k) → Runs (tables (rows ++ r ∷ []) (terms ++ ts) st) (block_lines k) (tables (rows ++ r ∷ block_rows (length rows + 1) m k) (terms ++ (ts ++ all_terms (block_lines k))) st)
after_line rows r terms ts st k m e h =
    subst (λ (x : Tables). Runs (tables (rows ++ r ∷ []) (terms ++ ts) st) (block_lines k) x)
    (same_tables _ _ _ _ st (pushed_rows rows r (length (terms ++ ts)) m k (length-append terms ts ∙ e)) (append_assoc terms ts (all_terms (block_lines k)))) h

-- what is opened with an expression
module _ (kd : Kind) (e : Expr) (rows : List Row) (terms : List Term) (o : ℕ) (os : List ℕ) where
  abbrev opener : ℕ → Row
  opener partner = row kd (length terms) (length (terms_of e)) partner

  abbrev u₁ : ℕ
  u₁ = length terms + length (terms_of e)

  abbrev opened : Tables
  opened = tables (rows ++ opener 0 ∷ []) (terms ++ terms_of e) (length rows ∷ o ∷ os)

  module _ (p : Block) (ih : Runs opened (block_lines p) (Blocked (rows ++ opener 0 ∷ []) (terms ++ terms_of e) (length rows ∷ o ∷ os) p)) where
    abbrev first : List Row
    first = block_rows (length rows + 1) u₁ p

    abbrev u₂ : ℕ
    u₂ = u₁ + width p

    abbrev terms₂ : List Term
    terms₂ = (terms ++ terms_of e) ++ all_terms (block_lines p)

    -- one part, closed
    one_part : (k : Block) → length rows + 1 + length (block_lines p) < 128 → u₂ ≤ 512
        → Runs (tables (rows ++ opener (length rows + 1 + length first) ∷ (first ++ row kind.Close u₂ 0 0 ∷ [])) terms₂ (o ∷ os)) (block_lines k) (Blocked (rows ++ opener (length rows + 1 + length first) ∷ (first ++ row kind.Close u₂ 0 0 ∷ [])) terms₂ (o ∷ os) k)
        → Runs opened (block_lines p ++ close_line ∷ block_lines k) (tables (rows ++ opener (length rows + 1 + length first) ∷ (first ++ row kind.Close u₂ 0 0 ∷ block_rows (length rows + 1 + length first + 1) u₂ k)) (terms ++ (terms_of e ++ all_terms (block_lines p ++ close_line ∷ block_lines k))) (o ∷ os))
    one_part k a b h =
        let l = length-append terms (terms_of e) in
        let m = length-append (terms ++ terms_of e) (all_terms (block_lines p)) in
        let long : length terms₂ ≡ u₂ = omega arith in
        closed_runs rows kd (length terms) (length (terms_of e)) (terms ++ terms_of e) (o ∷ os) p u₁ l ih (block_lines k) _ a b
        (
        subst (λ (x : Tables). Runs (tables (rows ++ opener (length rows + 1 + length first) ∷ (first ++ row kind.Close u₂ 0 0 ∷ [])) terms₂ (o ∷ os)) (block_lines k) x)
        (
        same_tables _ _ _ _ (o ∷ os)
        (closed_rows rows (opener (length rows + 1 + length first)) first (row kind.Close u₂ 0 0) (λ j u. block_rows j u k) (length terms₂) u₂ long)
        (
        append_assoc (terms ++ terms_of e) (all_terms (block_lines p)) (all_terms (block_lines k))
        ∙ append_assoc terms (terms_of e) (all_terms (block_lines p) ++ all_terms (block_lines k))
        ∙ ap (λ x. terms ++ (terms_of e ++ x)) (sym (all_terms_append (block_lines p) (close_line ∷ block_lines k)))
        )
        )
        h
        )

    -- two parts
    module _ (is : kd ≡ kind.If) (q k : Block) where
      abbrev rows₂ : List Row
      rows₂ = rows ++ opener (length rows + 1 + length first) ∷ first

      abbrev second : ℕ → List Row
      second n = block_rows (n + 1) u₂ q

      abbrev u₃ : ℕ
      u₃ = u₂ + width q

      abbrev terms₃ : List Term
      terms₃ = terms₂ ++ all_terms (block_lines q)

      abbrev ending : ℕ → List Row
      ending n = row kind.Else u₂ 0 (n + 1 + length (second n)) ∷ (second n ++ row kind.Close u₃ 0 0 ∷ block_rows (n + 1 + length (second n) + 1) u₃ k)

      two_parts : length rows + 1 + length (block_lines p) + 1 + length (block_lines q) < 128 → u₃ ≤ 512
          → Runs (tables (rows₂ ++ row kind.Else u₂ 0 0 ∷ []) terms₂ (length rows₂ ∷ o ∷ os)) (block_lines q) (Blocked (rows₂ ++ row kind.Else u₂ 0 0 ∷ []) terms₂ (length rows₂ ∷ o ∷ os) q)
          → Runs (tables (rows₂ ++ row kind.Else u₂ 0 (length rows₂ + 1 + length (second (length rows₂))) ∷ (second (length rows₂) ++ row kind.Close u₃ 0 0 ∷ [])) terms₃ (o ∷ os)) (block_lines k) (Blocked (rows₂ ++ row kind.Else u₂ 0 (length rows₂ + 1 + length (second (length rows₂))) ∷ (second (length rows₂) ++ row kind.Close u₃ 0 0 ∷ [])) terms₃ (o ∷ os) k)
          → Runs opened (block_lines p ++ else_line ∷ (block_lines q ++ close_line ∷ block_lines k)) (tables (rows ++ opener (length rows + 1 + length first) ∷ (first ++ ending (length rows + 1 + length first))) (terms ++ (terms_of e ++ all_terms (block_lines p ++ else_line ∷ (block_lines q ++ close_line ∷ block_lines k)))) (o ∷ os))
      two_parts a b g h =
          let l = length-append terms (terms_of e) in
          let m = length-append (terms ++ terms_of e) (all_terms (block_lines p)) in
          let n = length-append terms₂ (all_terms (block_lines q)) in
          let long₂ : length terms₂ ≡ u₂ = omega arith in
          let long₃ : length terms₃ ≡ u₃ = omega arith in
          let many = rows_like_lines (length rows + 1) u₁ p in
          let r = length-append rows (opener (length rows + 1 + length first) ∷ first) in
          let place : length rows₂ ≡ length rows + 1 + length first = omega arith in
          runs_append opened (tables (rows ++ opener 0 ∷ first) terms₂ (length rows ∷ o ∷ os)) _ (block_lines p) (else_line ∷ (block_lines q ++ close_line ∷ block_lines k))
          (inner_runs rows kd (length terms) (length (terms_of e)) (terms ++ terms_of e) (o ∷ os) p u₁ l ih) (
            tables (rows₂ ++ row kind.Else u₂ 0 0 ∷ []) terms₂ (length rows₂ ∷ o ∷ os),
            else_step rows kd (length terms) (length (terms_of e)) first terms₂ (o ∷ os) is u₂ (sym long₂) (omega arith) (omega arith),
            closed_runs rows₂ kind.Else u₂ 0 terms₂ (o ∷ os) q u₂ long₂ g (block_lines k) _ (omega arith) b
                (
                subst (λ (x : Tables). Runs (tables (rows₂ ++ row kind.Else u₂ 0 (length rows₂ + 1 + length (second (length rows₂))) ∷ (second (length rows₂) ++ row kind.Close u₃ 0 0 ∷ [])) terms₃ (o ∷ os)) (block_lines k) x)
                (
                same_tables _ _ _ _ (o ∷ os)
                (
                closed_rows rows₂ (row kind.Else u₂ 0 (length rows₂ + 1 + length (second (length rows₂)))) (second (length rows₂)) (row kind.Close u₃ 0 0) (λ j u. block_rows j u k) (length terms₃) u₃ long₃
                ∙ ap (λ x. rows₂ ++ ending x) place
                ∙ append_assoc rows (opener (length rows + 1 + length first) ∷ first) (ending (length rows + 1 + length first))
                )
                (
                append_assoc terms₂ (all_terms (block_lines q)) (all_terms (block_lines k))
                ∙ append_assoc (terms ++ terms_of e) (all_terms (block_lines p)) (all_terms (block_lines q) ++ all_terms (block_lines k))
                ∙ append_assoc terms (terms_of e) (all_terms (block_lines p) ++ (all_terms (block_lines q) ++ all_terms (block_lines k)))
                ∙ ap (λ x. terms ++ (terms_of e ++ (all_terms (block_lines p) ++ x))) (sym (all_terms_append (block_lines q) (close_line ∷ block_lines k)))
                ∙ ap (λ x. terms ++ (terms_of e ++ x)) (sym (all_terms_append (block_lines p) (else_line ∷ (block_lines q ++ close_line ∷ block_lines k))))
                )
                )
                h
                ),
          )

-- the lines of a block, behind rows that leave some open, lead to its rows
abbrev Leads : ℕ → Block → Type 0
Leads d b = (rows : List Row) (terms : List Term) (o : ℕ) (os : List ℕ) → d + length os ≤ 8 → length rows + length (block_lines b) ≤ 128 → length terms + width b ≤ 512 → Runs (tables rows terms (o ∷ os)) (block_lines b) (Blocked rows terms (o ∷ os) b)

module _ (rows : List Row) (terms : List Term) (o : ℕ) (os : List ℕ) (d : ℕ) (deep : d + length os ≤ 8) where
  -- a row that opens nothing, and then a block
  plain_runs : (kd : Kind) (ts : List Term) (k : Block) → Leads d k → nested rows (o ∷ os) (length rows) kd ≡ Some (rows, o ∷ os) → is_twice kd rows ≡ false
      → length rows + length ((kd, ts) ∷ block_lines k) ≤ 128 → length terms + length (ts ++ all_terms (block_lines k)) ≤ 512
      → Runs (tables rows terms (o ∷ os)) ((kd, ts) ∷ block_lines k) (tables (rows ++ row kd (length terms) (length ts) 0 ∷ block_rows (length rows + 1) (length terms + length ts) k) (terms ++ (ts ++ all_terms (block_lines k))) (o ∷ os))
  plain_runs kd ts k leads e w a b =
      let r = row kd (length terms) (length ts) 0 in
      let l = length_push rows r in
      let m = length-append terms ts in
      let n = length-append ts (all_terms (block_lines k)) in (
        tables (rows ++ r ∷ []) (terms ++ ts) (o ∷ os),
        plain_step rows terms o os kd ts e w (omega arith) (omega arith),
        after_line rows r terms ts (o ∷ os) k _ refl (leads (rows ++ r ∷ []) (terms ++ ts) o os deep (omega arith) (omega arith)),
      )

  -- a row that opens one part, the part, its end, and then a block
  one_part_runs : (kd : Kind) (e : Expr) (p k : Block) → Leads (d - 1) p → Leads d k → 0 < d → nested rows (o ∷ os) (length rows) kd ≡ opens rows (o ∷ os) (length rows) → is_twice kd rows ≡ false
      → length rows + length ((kd, terms_of e) ∷ (block_lines p ++ close_line ∷ block_lines k)) ≤ 128 → length terms + length (terms_of e ++ all_terms (block_lines p ++ close_line ∷ block_lines k)) ≤ 512
      → Runs (tables rows terms (o ∷ os)) ((kd, terms_of e) ∷ (block_lines p ++ close_line ∷ block_lines k)) (tables (rows ++ row kd (length terms) (length (terms_of e)) (length rows + 1 + length (block_rows (length rows + 1) (length terms + length (terms_of e)) p)) ∷ (block_rows (length rows + 1) (length terms + length (terms_of e)) p ++ row kind.Close (length terms + length (terms_of e) + width p) 0 0 ∷ block_rows (length rows + 1 + length (block_rows (length rows + 1) (length terms + length (terms_of e)) p) + 1) (length terms + length (terms_of e) + width p) k)) (terms ++ (terms_of e ++ all_terms (block_lines p ++ close_line ∷ block_lines k))) (o ∷ os))
  one_part_runs kd e p k inner leads pos n w a b =
      let x1 = length_push rows (opener kd e rows terms o os 0) in
      let x2 = length-append terms (terms_of e) in
      let x3 = length-append (terms ++ terms_of e) (all_terms (block_lines p)) in
      let x4 = length-append (block_lines p) (close_line ∷ block_lines k) in
      let x5 = length-append (terms_of e) (all_terms (block_lines p ++ close_line ∷ block_lines k)) in
      let x6 = width_closed (block_lines p) (block_lines k) in
      let u₁ = length terms + length (terms_of e) in
      let first = block_rows (length rows + 1) u₁ p in
      let r₁ = row kd (length terms) (length (terms_of e)) (length rows + 1 + length first) in
      let c₁ = row kind.Close (u₁ + width p) 0 0 in
      let x7 = rows_like_lines (length rows + 1) u₁ p in
      let x8 = length-append rows (r₁ ∷ (first ++ c₁ ∷ [])) in
      let x9 = length_push first c₁ in (
        opened kd e rows terms o os,
        open_step rows terms o os kd (terms_of e) n w (omega arith) (omega arith) (omega arith),
        one_part kd e rows terms o os p
            (inner (rows ++ opener kd e rows terms o os 0 ∷ []) (terms ++ terms_of e) (length rows) (o ∷ os) (omega arith) (omega arith) (omega arith))
            k (omega arith) (omega arith)
            (leads (rows ++ r₁ ∷ (first ++ c₁ ∷ [])) ((terms ++ terms_of e) ++ all_terms (block_lines p)) o os deep (omega arith) (omega arith)),
      )

block_runs : (d : ℕ) (b : Block) → FitBlock d b → Leads d b
block_runs d done fit rows terms o os deep a b = sym (same_tables _ _ _ _ (o ∷ os) (append-nil rows) (append-nil terms))
block_runs d (skip k) fit rows terms o os deep a b =
    let r = row kind.Skip (length terms) 0 0 in
    let l = length_push rows r in
    let m = length-append terms [] in (
      tables (rows ++ r ∷ []) (terms ++ []) (o ∷ os),
      plain_step rows terms o os kind.Skip [] refl refl (omega arith) (omega arith),
      after_line rows r terms [] (o ∷ os) k (length terms) (omega arith) (block_runs d k fit (rows ++ r ∷ []) (terms ++ []) o os deep (omega arith) (omega arith)),
    )
block_runs d (assign v e k) fit rows terms o os deep a b = plain_runs rows terms o os d deep (kind.Assign v) (terms_of e) k (block_runs d k fit.2) refl refl a b
block_runs d (output c e k) fit rows terms o os deep a b = plain_runs rows terms o os d deep (kind.Output c) (terms_of e) k (block_runs d k fit.3) refl refl a b
block_runs d (branch true e p q k) fit rows terms o os deep a b =
    let ls = block_lines q ++ close_line ∷ block_lines k in
    let pos = fit.0 in
    let x1 = length_push rows (opener kind.If e rows terms o os 0) in
    let x2 = length-append terms (terms_of e) in
    let x3 = length-append (terms ++ terms_of e) (all_terms (block_lines p)) in
    let x4 = length-append (block_lines p) (else_line ∷ ls) in
    let x5 = length-append (block_lines q) (close_line ∷ block_lines k) in
    let x6 = length-append (terms_of e) (all_terms (block_lines p ++ else_line ∷ ls)) in
    let x7 = width_parted (block_lines p) ls in
    let x8 = width_closed (block_lines q) (block_lines k) in
    let u₁ = length terms + length (terms_of e) in
    let first = block_rows (length rows + 1) u₁ p in
    let rows₂ = rows ++ row kind.If (length terms) (length (terms_of e)) (length rows + 1 + length first) ∷ first in
    let x9 = rows_like_lines (length rows + 1) u₁ p in
    let y1 = length-append rows (row kind.If (length terms) (length (terms_of e)) (length rows + 1 + length first) ∷ first) in
    let y2 = length_push rows₂ (row kind.Else (u₁ + width p) 0 0) in
    let second = block_rows (length rows₂ + 1) (u₁ + width p) q in
    let y3 = rows_like_lines (length rows₂ + 1) (u₁ + width p) q in
    let e₂ = row kind.Else (u₁ + width p) 0 (length rows₂ + 1 + length second) in
    let c₂ = row kind.Close (u₁ + width p + width q) 0 0 in
    let y4 = length-append rows₂ (e₂ ∷ (second ++ c₂ ∷ [])) in
    let y5 = length_push second c₂ in
    let y6 = length-append ((terms ++ terms_of e) ++ all_terms (block_lines p)) (all_terms (block_lines q)) in (
      opened kind.If e rows terms o os,
      open_step rows terms o os kind.If (terms_of e) refl refl (omega arith) (omega arith) (omega arith),
      two_parts kind.If e rows terms o os p
          (block_runs (d - 1) p fit.2 (rows ++ opener kind.If e rows terms o os 0 ∷ []) (terms ++ terms_of e) (length rows) (o ∷ os) (omega arith) (omega arith) (omega arith))
          refl q k (omega arith) (omega arith)
          (block_runs (d - 1) q fit.3 (rows₂ ++ row kind.Else (u₁ + width p) 0 0 ∷ []) ((terms ++ terms_of e) ++ all_terms (block_lines p)) (length rows₂) (o ∷ os) (omega arith) (omega arith) (omega arith))
          (block_runs d k fit.5 (rows₂ ++ e₂ ∷ (second ++ c₂ ∷ [])) (((terms ++ terms_of e) ++ all_terms (block_lines p)) ++ all_terms (block_lines q)) o os deep (omega arith) (omega arith)),
    )
block_runs d (branch false e p q k) fit rows terms o os deep a b = one_part_runs rows terms o os d deep kind.If e p k (block_runs (d - 1) p fit.2) (block_runs d k fit.5) fit.0 refl refl a b
block_runs d (repeat e p k) fit rows terms o os deep a b = one_part_runs rows terms o os d deep kind.While e p k (block_runs (d - 1) p fit.2) (block_runs d k fit.3) fit.0 refl refl a b

-- which channels have a handler among rows
abbrev pub Channels : List Row → List ℕ → Type 0
Channels rows cs = (c : ℕ) → has_handler c rows ≡ is_listed c cs

none_append : (c : ℕ) (xs ys : List Row) → has_handler c xs ≡ false → has_handler c ys ≡ false → has_handler c (xs ++ ys) ≡ false
none_append c xs ys e f = list_any-append (λ (r : Row). is_handler_of c r.kind) xs ys ∙ ap (λ b. b || has_handler c ys) e ∙ f

block_has_none : (c j u : ℕ) (b : Block) → has_handler c (block_rows j u b) ≡ false
block_has_none c j u done = refl
block_has_none c j u (skip k) = block_has_none c (j + 1) u k
block_has_none c j u (assign v e k) = block_has_none c (j + 1) (u + length (terms_of e)) k
block_has_none c j u (output d e k) = block_has_none c (j + 1) (u + length (terms_of e)) k
block_has_none c j u (branch true e p q k) =
    none_append c (block_rows (j + 1) (u + length (terms_of e)) p) _ (block_has_none c (j + 1) (u + length (terms_of e)) p)
    (none_append c (block_rows (j + 1 + length (block_rows (j + 1) (u + length (terms_of e)) p) + 1) (u + length (terms_of e) + width p) q) _ (block_has_none c _ _ q) (block_has_none c _ _ k))
block_has_none c j u (branch false e p q k) = none_append c (block_rows (j + 1) (u + length (terms_of e)) p) _ (block_has_none c (j + 1) (u + length (terms_of e)) p) (block_has_none c _ _ k)
block_has_none c j u (repeat e p k) = none_append c (block_rows (j + 1) (u + length (terms_of e)) p) _ (block_has_none c (j + 1) (u + length (terms_of e)) p) (block_has_none c _ _ k)

one_more_channel : (rows : List Row) (cs : List ℕ) (d f n p j u v : ℕ) (b : Block) → Channels rows cs → Channels (rows ++ row (kind.Handler d) f n p ∷ (block_rows j u b ++ row kind.Close v 0 0 ∷ [])) (d ∷ cs)
one_more_channel rows cs d f n p j u v b h c =
    let none = none_append c (block_rows j u b) (row kind.Close v 0 0 ∷ []) (block_has_none c j u b) refl in
    list_any-append (λ (r : Row). is_handler_of c r.kind) rows (row (kind.Handler d) f n p ∷ (block_rows j u b ++ row kind.Close v 0 0 ∷ []))
    ∙ ap (λ x. x || (eqb c d || has_handler c (block_rows j u b ++ row kind.Close v 0 0 ∷ []))) (h c)
    ∙ ap (λ x. is_listed c cs || (eqb c d || x)) none
    ∙ ap (λ x. is_listed c cs || x) (or_comm (eqb c d) false)
    ∙ or_comm (is_listed c cs) (eqb c d)

tree_runs : (hs : Tree) (cs : List ℕ) (rows : List Row) (terms : List Term) → AllByRecursion FitHandler hs → Once cs hs → Channels rows cs → length rows + length (lines_of hs) ≤ 128 → length terms + length (all_terms (lines_of hs)) ≤ 512 → Runs (tables rows terms []) (lines_of hs) (tables (rows ++ tree_rows (length rows) (length terms) hs) (terms ++ all_terms (lines_of hs)) [])
tree_runs [] cs rows terms fit once known a b = sym (same_tables _ _ _ _ [] (append-nil rows) (append-nil terms))
tree_runs (h ∷ hs) cs rows terms fit once known a b =
    let u = length terms in
    let p = h.body in
    let r₀ = row (kind.Handler h.channel) u 0 0 in
    let first = block_rows (length rows + 1) u p in
    let r₁ = row (kind.Handler h.channel) u 0 (length rows + 1 + length first) in
    let c₁ = row kind.Close (u + width p) 0 0 in
    let rows₂ = rows ++ r₁ ∷ (first ++ c₁ ∷ []) in
    let terms₂ = (terms ++ []) ++ all_terms (block_lines p) in
    let x1 = length_push rows r₀ in
    let x2 = length-append terms [] in
    let x3 = length-append (terms ++ []) (all_terms (block_lines p)) in
    let x4 = length-append (block_lines p) (close_line ∷ lines_of hs) in
    let x5 = width_closed (block_lines p) (lines_of hs) in
    let x6 = rows_like_lines (length rows + 1) u p in
    let x7 = length-append rows (r₁ ∷ (first ++ c₁ ∷ [])) in
    let x8 = length_push first c₁ in
    let long : length terms₂ ≡ u + width p = omega arith in
    let short : length (terms ++ []) ≡ u = omega arith in (
      tables (rows ++ r₀ ∷ []) (terms ++ []) (length rows ∷ []),
      steps (tables rows terms []) (kind.Handler h.channel, []) (rows, length rows ∷ []) refl (known h.channel ∙ once.0) (room rows terms [] [] (omega arith) (omega arith)),
      closed_runs rows (kind.Handler h.channel) u 0 (terms ++ []) [] p u short
          (block_runs 8 p fit.0.1 (rows ++ r₀ ∷ []) (terms ++ []) (length rows) [] (omega arith) (omega arith) (omega arith))
          (lines_of hs) _ (omega arith) (omega arith)
          (
          subst (λ (x : Tables). Runs (tables rows₂ terms₂ []) (lines_of hs) x)
          (
          same_tables _ _ _ _ []
          (closed_rows rows r₁ first c₁ (λ j u. tree_rows j u hs) (length terms₂) (u + width p) long)
          (
          ap (λ x. (x ++ all_terms (block_lines p)) ++ all_terms (lines_of hs)) (append-nil terms)
          ∙ append_assoc terms (all_terms (block_lines p)) (all_terms (lines_of hs))
          ∙ ap (λ x. terms ++ x) (sym (all_terms_append (block_lines p) (close_line ∷ lines_of hs)))
          )
          )
          (tree_runs hs (h.channel ∷ cs) rows₂ terms₂ fit.1 once.1 (one_more_channel rows cs h.channel u 0 (length rows + 1 + length first) (length rows + 1) u (u + width p) p known) (omega arith) (omega arith))
          ),
    )

pub lines_lead_to_the_flat_form : (p : Tree) → Within p → Runs start (lines_of p) (flat p)
lines_lead_to_the_flat_form p w = tree_runs p [] [] [] w.handlers_fit w.one_handler_a_channel (λ c. refl) (let a = w.rows_are_few in omega arith) (let a = w.terms_are_few in omega arith)
