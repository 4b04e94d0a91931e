-- The loop that reads the lines of a text into lent tables. Assumes nothing.
use Rattle.std.proofs.Common.{◌≡◌, ℕ, ◌+◌, ◌-◌, ◌≤◌, List, length, drop, replicate, Ok, Err, Result, sym, ap, ◌∙◌, subst, arith}
use Rattle.std.proofs.lemmas.List.{drop-drop, drop-replicate}
use Rattle.fault.specs.declared.Fault.{Fault}
use Rattle.fault.specs.Faults.{then}
use Rattle.text.specs.Building.{two_steps}
use Rattle.text.specs.Numbered.{Gives}
use Rattle.text.specs.declared.line.Line.{Line}
use Rattle.text.specs.declared.lines.Lines.{Lines}
use Rattle.text.proofs.Steps.{read_on, line_is_read}
use Rattle.program.specs.declared.reader.Progress.{Progress}
use Rattle.program.specs.declared.rows.Row.{Row}
use Rattle.program.specs.declared.rows.Term.{Term}
use Rattle.program.specs.Lines.{parse}
use Rattle.program.specs.Building.{blank_row, blank_term, Tables, build}
use Rattle.program.specs.Progress.{so_far, GoesOn}
use Rattle.program.specs.Reading.{ended, reading}

-- what the lines that are left, and then the end, make of what is held
abbrev pub to_end : Result Tables Fault → Result Tables Fault
to_end r = then r (λ s. ended s s.stack)

-- what is read is held, blanks follow it, and what is left gives the result
pub record ReadSoFar (text : List ℕ) (left : Lines) (p : Progress) (rows : List Row) (terms : List Term) : Type 0 where
  pub room : 128 ≤ length rows
  pub rest : drop p.nesting.count rows ≡ replicate (length rows - p.nesting.count) blank_row
  pub few_terms : p.used ≤ 512
  pub room_terms : 512 ≤ length terms
  pub rest_terms : drop p.used terms ≡ replicate (length terms - p.used) blank_term
  pub same : reading text ≡ to_end (read_on (two_steps parse build) (so_far p rows terms) left)

went : (x : Result Tables Fault) (held : Tables) → GoesOn x (Ok tt) held → x ≡ Ok held
went (Ok t) held h = ap (λ s. Ok s) (sym h.1)
went (Err f) held h = cc

stopped : (x : Result Tables Fault) (f : Fault) (held : Tables) → GoesOn x (Err f) held → x ≡ Err f
stopped (Ok t) f held h = cc
stopped (Err g) f held h = cc

-- fewer blanks where one more is taken
less : {X : Type 0} (b : X) (m n : ℕ) (xs ys : List X) → m ≤ n → length ys ≡ length xs → drop m xs ≡ replicate (length xs - m) b → drop n ys ≡ drop n xs → drop n ys ≡ replicate (length ys - n) b
less b m n xs ys le long e same =
    same
    ∙ ap (λ k. drop k xs) (let z : n ≡ m + (n - m) = omega arith in z)
    ∙ sym (drop-drop (n - m) m xs)
    ∙ ap (drop (n - m)) e
    ∙ drop-replicate (n - m) (length xs - m) b
    ∙ ap (λ k. replicate k b) (let z : length xs - m - (n - m) ≡ length ys - n = omega arith in z)

module _ {text : List ℕ} {left : Lines} {p : Progress} {rows : List Row} {terms : List Term} (s : ReadSoFar text left p rows terms) where
  module _ {l : Line} {next : Lines} (g : Gives left l next) where
    by_line : (r : Result Tables Fault) → two_steps parse build (so_far p rows terms) l.number l.bytes.now ≡ r → reading text ≡ to_end (then r (λ t. read_on (two_steps parse build) t next))
    by_line r e = s.same ∙ ap to_end (line_is_read (two_steps parse build) (so_far p rows terms) g ∙ ap (λ x. then x (λ t. read_on (two_steps parse build) t next)) e)

    pub misput : {f : Fault} (held : Tables) → GoesOn (two_steps parse build (so_far p rows terms) l.number l.bytes.now) (Err f) held → reading text ≡ Err f
    misput {f} held h = by_line (Err f) (stopped _ f held h)

    pub one_more : (p' : Progress) (rows' : List Row) (terms' : List Term) → GoesOn (two_steps parse build (so_far p rows terms) l.number l.bytes.now) (Ok tt) (so_far p' rows' terms')
        → length rows' ≡ length rows → length terms' ≡ length terms → p'.nesting.count ≡ p.nesting.count + 1 → p.used ≤ p'.used → p'.used ≤ 512
        → drop (p.nesting.count + 1) rows' ≡ drop (p.nesting.count + 1) rows → drop p'.used terms' ≡ drop p'.used terms → ReadSoFar text next p' rows' terms'
    one_more p' rows' terms' goes long long_terms counted grows le kept kept_terms =
        let a = s.room in
        let b = s.room_terms in
        record {
          room = omega arith;
          rest = less blank_row p.nesting.count p'.nesting.count rows rows' (omega arith) long s.rest (subst (λ (n : ℕ). drop n rows' ≡ drop n rows) (sym counted) kept);
          few_terms = le;
          room_terms = omega arith;
          rest_terms = less blank_term p.used p'.used terms terms' grows long_terms s.rest_terms kept_terms;
          same = by_line (Ok (so_far p' rows' terms')) (went _ _ goes);
        }
