-- Reading a program inverts writing it. Assumes nothing.
use Rattle.std.proofs.Common.{◌≡◌, ℕ, ◌-◌, ◌≤◌, Bool, true, false, cond, leb, List, [], ◌∷◌, map, length, replicate, Ok, Err, Result, sym, refl, ap, ◌∙◌, subst, arith, length-append}
use lib.ListN.{length-replicate}
use Rattle.std.proofs.lemmas.List.{length-map}
use Rattle.std.proofs.lemmas.Bool.{leb-true, le-leb, and_parts, both_ways}
use Rattle.std.specs.List.{AllByRecursion}
use Rattle.fault.specs.declared.Fault.{Fault}
use Rattle.fault.specs.declared.Reason.TheVariants as reason
use Rattle.fault.specs.Faults.{unplaced}
use Rattle.fault.proofs.Then.{then_ok, ok_then, same_ok, cond_ok}
use Rattle.language.specs.Block.{Block, done, skip, assign, output, branch, repeat, Tree}
use Rattle.text.specs.Building.{two_steps, Built}
use Rattle.text.specs.Lines.{is_clean}
use Rattle.text.specs.Pieces.{pieces}
use Rattle.text.specs.Texts.{fed, strict, on_lines}
use Rattle.text.proofs.Built.{accepted_text_is_written, written_text_is_accepted}
use Rattle.text.proofs.Cutting.{Free}
use Rattle.text.proofs.Printing.{clean_is_free}
use Rattle.program.specs.declared.rows.Row.{Row}
use Rattle.program.specs.declared.rows.Term.{Term}
use Rattle.program.specs.Lines.{Line, parse, line_bytes, FitLine}
use Rattle.program.specs.Building.{blank_row, blank_term, Tables, start, build, line_from, lines_from}
use Rattle.program.specs.Laws.{Writes, flat, Hold, Accepts, ReadingInvertsWriting, FlatFormTellsTheProgram, TextTellsTheProgram}
use Rattle.program.specs.Reading.{ended, tables_in, reading, padded, counted, rows_left, terms_left, enough, answer, rows_after, terms_after}
use Rattle.program.specs.Trees.{program_of, tree_of}
use Rattle.program.specs.Writing.{block_lines, lines_of, all_terms, flat_rows, flat_terms, FitBlock, FitHandler, Within}
use Rattle.program.proofs.Channels.{runs_have_one_handler_a_channel}
use Rattle.program.proofs.Flattening.{lines_lead_to_the_flat_form}
use Rattle.program.proofs.Lines.{line_read_is_written, written_line_is_read}
use Rattle.program.proofs.Nested.{runs_are_ordered}
use Rattle.program.proofs.Ordering.{ordered_lines_are_a_program}
use Rattle.program.proofs.Runs.{Runs, built_runs, runs_built, runs_lead_to_one, runs_are_few}
use Rattle.program.proofs.Scanning.{program_of_its_lines}
use Rattle.program.proofs.Spelling.{all_append, fit_expression_is_one}
use Rattle.program.proofs.Tables.{tables_tell_their_lines}

-- what is written of a program fits
block_fits : (d : ℕ) (b : Block) → FitBlock d b → AllByRecursion FitLine (block_lines b)
block_fits d done fit = tt
block_fits d (skip k) fit = (refl, block_fits d k fit)
block_fits d (assign v e k) fit = ((fit.0, fit_expression_is_one e fit.1), block_fits d k fit.2)
block_fits d (output c e k) fit = ((fit.0, fit.1, fit_expression_is_one e fit.2), block_fits d k fit.3)
block_fits d (branch true e p q k) fit = (
  fit_expression_is_one e fit.1,
  all_append FitLine (block_lines p) _ (block_fits (d - 1) p fit.2) (refl, all_append FitLine (block_lines q) _ (block_fits (d - 1) q fit.3) (refl, block_fits d k fit.5)),
)
block_fits d (branch false e p q k) fit = (fit_expression_is_one e fit.1, all_append FitLine (block_lines p) _ (block_fits (d - 1) p fit.2) (refl, block_fits d k fit.5))
block_fits d (repeat e p k) fit = (fit_expression_is_one e fit.1, all_append FitLine (block_lines p) _ (block_fits (d - 1) p fit.2) (refl, block_fits d k fit.3))

pub lines_fit : (p : Tree) → AllByRecursion FitHandler p → AllByRecursion FitLine (lines_of p)
lines_fit [] fit = tt
lines_fit (h ∷ hs) fit = ((fit.0.0, refl), all_append FitLine (block_lines h.body) _ (block_fits 8 h.body fit.0.1) (refl, lines_fit hs fit.1))

-- lines that are built, with nothing open at the end, are those of a program, and lead to its flat form
pub built_is_flat : (ls : List Line) (t : Tables) → AllByRecursion FitLine ls → t.stack ≡ [] → Built build start 0 ls t → (ls ≡ lines_of (program_of ls)) × Within (program_of ls) × (t ≡ flat (program_of ls))
built_is_flat ls t fit z b =
    let r = built_runs start 0 ls t b in
    let o = ordered_lines_are_a_program ls (runs_are_ordered start t ls refl z r) fit in
    let few = runs_are_few start t ls (omega arith) (omega arith) r in
    let w : Within (program_of ls) = record {
      handlers_fit = o.2;
      one_handler_a_channel = runs_have_one_handler_a_channel start t ls [] (λ c. refl) r;
      rows_are_few = subst (λ (x : List Line). length x ≤ 128) o.0 (let a = few.0 in omega arith);
      terms_are_few = subst (λ (x : List Line). length (all_terms x) ≤ 512) o.0 (let a = few.1 in omega arith);
    } in
    (o.0, w, runs_lead_to_one start t (flat (program_of ls)) ls r (subst (λ (x : List Line). Runs start x (flat (program_of ls))) (sym o.0) (lines_lead_to_the_flat_form (program_of ls) w)))

ended_is : (s t : Tables) (os : List ℕ) → s.stack ≡ os → ended s os ≡ Ok t → (s ≡ t) × (t.stack ≡ [])
ended_is s t [] z e = let q = same_ok s t e in (q, ap (λ (x : Tables). x.stack) (sym q) ∙ z)
ended_is s t (o ∷ os) z e = cc

read_is_written : (t : List ℕ) (s : Tables) → reading t ≡ Ok s → (p : Tree) × Writes p t × (s ≡ flat p)
read_is_written t s e =
    let c = cond_ok (leb (length t) 8192) (tables_in t) (unplaced reason.Overlong) s e in
    let x = then_ok (on_lines strict (two_steps parse build) start 0 (pieces 10 t)) (λ u. ended u u.stack) s c.1 in
    let u = x.0 in
    let q = ended_is u s u.stack refl x.2 in
    let a = accepted_text_is_written parse build line_bytes FitLine line_read_is_written written_line_is_read strict start u t x.1 in
    let ls = a.0 in
    let b = built_is_flat ls u a.2 (ap (λ (y : Tables). y.stack) q.0 ∙ q.1) a.4 in (
      program_of ls,
      record {
        program_keeps_its_limits = b.1;
        lines_are_clean = subst (λ (y : List Line). AllByRecursion (λ l. is_clean (line_bytes l) ≡ true) y) b.0 a.3;
        text_is_short = leb-true (length t) 8192 c.0;
        text_is_written = a.1 ∙ ap (λ y. fed (map line_bytes y)) b.0;
      },
      sym q.0 ∙ b.2,
    )

all_free : (ls : List Line) → AllByRecursion (λ l. is_clean (line_bytes l) ≡ true) ls → AllByRecursion (Free 10) (map line_bytes ls)
all_free [] c = tt
all_free (l ∷ ls) c = (clean_is_free (line_bytes l) c.0, all_free ls c.1)

written_is_read : (t : List ℕ) (p : Tree) → Writes p t → reading t ≡ Ok (flat p)
written_is_read t p w =
    let limits = w.program_keeps_its_limits in
    let ls = lines_of p in
    ap (λ b. cond b (tables_in t) (Err (unplaced reason.Overlong))) (le-leb (length t) 8192 w.text_is_short)
    ∙ ap tables_in w.text_is_written
    ∙ ok_then (λ u. ended u u.stack) (Ok (flat p))
    (written_text_is_accepted parse build line_bytes FitLine line_read_is_written written_line_is_read strict start (flat p) ls (lines_fit p limits.handlers_fit) w.lines_are_clean (all_free ls w.lines_are_clean)
    (runs_built start 0 ls (flat p) (lines_lead_to_the_flat_form p limits)))
    refl

pub reading_inverts_writing : ReadingInvertsWriting
reading_inverts_writing t = record { read_is_written = read_is_written t; written_is_read = written_is_read t }

pub flat_form_tells_the_lines : (p : Tree) → Within p → lines_from (flat_rows p) (flat_terms p) ≡ lines_of p
flat_form_tells_the_lines p w = sym (tables_tell_their_lines (lines_of p) (flat p) (runs_built start 0 (lines_of p) (flat p) (lines_lead_to_the_flat_form p w)))

pub flat_form_tells_the_program : FlatFormTellsTheProgram
flat_form_tells_the_program p w = ap program_of (flat_form_tells_the_lines p w) ∙ program_of_its_lines p w.handlers_fit

pub text_tells_the_program : TextTellsTheProgram
text_tells_the_program t p q v w =
    let e = same_ok (flat p) (flat q) (sym (written_is_read t p v) ∙ written_is_read t q w) in
    sym (flat_form_tells_the_program p v.program_keeps_its_limits)
    ∙ ap (λ (x : Tables). tree_of x.rows x.terms) e
    ∙ flat_form_tells_the_program q w.program_keeps_its_limits

no_ok : (f : Fault) (s : Tables) → ◌≡◌ {A = Result Tables Fault} (Err f) (Ok s) → ⊥
no_ok f s e = cc

length_padded : {X : Type 0} (b : X) (n : ℕ) (xs : List X) → length xs ≤ n → length (padded b n xs) ≡ n
length_padded b n xs le = let a = length-append xs (replicate (n - length xs) b) in let r = length-replicate (n - length xs) b in omega arith

holds : (p : Tree) (rows : List Row) (terms : List Term) → Within p → enough rows terms ≡ true → Hold p (padded blank_row (length rows) (flat_rows p)) (padded blank_term (length terms) (flat_terms p))
holds p rows terms w e =
    let a = and_parts (leb 128 (length rows)) (leb 512 (length terms)) e in
    let b = leb-true 128 (length rows) a.0 in
    let c = leb-true 512 (length terms) a.1 in
    let r = ap length (flat_form_tells_the_lines p w) in
    let m = length-map (flat_rows p) (line_from (flat_terms p)) in
    let f = w.rows_are_few in
    let g = w.terms_are_few in
    let x = length_padded blank_row (length rows) (flat_rows p) (omega arith) in
    let y = length_padded blank_term (length terms) (flat_terms p) (omega arith) in
    (ap (λ n. padded blank_row n (flat_rows p)) (sym x), ap (λ n. padded blank_term n (flat_terms p)) (sym y))

module _ (t : List ℕ) (rows : List Row) (terms : List Term) where
  by_reading : (x : Result Tables Fault) (b : Bool) → reading t ≡ x → enough rows terms ≡ b
      → Accepts t rows terms (cond b (counted x) (Err (unplaced reason.Slip))) (cond b (rows_left (length rows) x) rows) (cond b (terms_left (length terms) x) terms)
  by_reading (Ok s) true e room =
      let h = read_is_written t s e in
      let p = h.0 in
      let q = holds p rows terms h.1.program_keeps_its_limits room in (
        p,
        h.1,
        subst (λ (y : Tables). Hold p (padded blank_row (length rows) y.rows) (padded blank_term (length terms) y.terms)) (sym h.2) q,
        ap (λ (y : Tables). length y.rows) h.2,
        room,
      )
  by_reading (Err f) true e room = λ _ p w. no_ok f (flat p) (sym e ∙ written_is_read t p w)
  by_reading (Ok s) false e room = λ other. absurd (both_ways (enough rows terms) room other)
  by_reading (Err f) false e room = λ other. absurd (both_ways (enough rows terms) room other)

  pub answer_accepts : (r : Result ℕ Fault) (rows' : List Row) (terms' : List Term) → r ≡ answer t rows terms → rows' ≡ rows_after t rows terms → terms' ≡ terms_after t rows terms → Accepts t rows terms r rows' terms'
  answer_accepts r rows' terms' e f g =
      subst (λ (x : Result ℕ Fault). Accepts t rows terms x rows' terms') (sym e)
      (subst (λ (x : List Row). Accepts t rows terms (answer t rows terms) x terms') (sym f)
      (subst (λ (x : List Term). Accepts t rows terms (answer t rows terms) (rows_after t rows terms) x) (sym g) (by_reading (reading t) (enough rows terms) refl refl)))
