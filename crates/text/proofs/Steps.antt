-- A text that is read line by line, as `Lines` gives it. Assumes nothing.
use Rattle.std.proofs.Common.{◌≡◌, ℕ, ◌+◌, cond, List, Some, Ok, Err, Result, sym, ap, ◌∙◌, subst}
use Rattle.fault.specs.declared.Fault.{Fault}
use Rattle.fault.specs.Faults.{then}
use Rattle.text.specs.declared.line.Line.{Line}
use Rattle.text.specs.declared.lines.Lines.{Lines}
use Rattle.text.specs.Building.{two_steps}
use Rattle.text.specs.Numbered.{GivesLine, Gives}
use Rattle.text.specs.Pieces.{pieces}
use Rattle.text.specs.Places.{ragged_at}
use Rattle.text.specs.Texts.{strict, Step, on_lines}

-- a line that was given
pub given : {it next : Lines} {r : Result Line Fault} {l : Line} → GivesLine it (Some r) next → r ≡ Ok l → Gives it l next
given {it} {next} h e = subst (λ (r : Result Line Fault). GivesLine it (Some r) next) e h

-- what the lines that are left make of what those before them left
abbrev pub read_on : {S : Type 0} → Step S → S → Lines → Result S Fault
read_on step s it = on_lines strict step s it.count (pieces 10 it.left.now)

module _ {S : Type 0} (step : Step S) (s : S) {it next : Lines} where
  pub line_is_read : {l : Line} → Gives it l next → read_on step s it ≡ then (step s l.number l.bytes.now) (λ t. read_on step t next)
  line_is_read {l} g =
      ap (on_lines strict step s it.count) g.begins.cut
      ∙ ap (λ b. then (cond b (step s (it.count + 1) l.bytes.now) (Err (ragged_at (it.count + 1)))) (λ t. on_lines strict step t (it.count + 1) (pieces 10 next.left.now))) g.begins.clean
      ∙ ap (λ n. then (step s n l.bytes.now) (λ t. on_lines strict step t (it.count + 1) (pieces 10 next.left.now))) (sym g.number)
      ∙ ap (λ n. then (step s l.number l.bytes.now) (λ t. on_lines strict step t n (pieces 10 next.left.now))) (sym g.more)

-- a line that is first read alone, and then put into the state
module _ {S A : Type 0} (parse : ℕ → List ℕ → Result A Fault) (build : S → ℕ → A → Result S Fault) (s : S) {it next : Lines} {l : Line} (g : Gives it l next) where
  abbrev after : Result S Fault → Result S Fault
  after r = then r (λ t. read_on (two_steps parse build) t next)

  pub line_is_built : (a : A) (r : Result S Fault) → parse l.number l.bytes.now ≡ Ok a → build s l.number a ≡ r → read_on (two_steps parse build) s it ≡ then r (λ t. read_on (two_steps parse build) t next)
  line_is_built a r h e = line_is_read (two_steps parse build) s g ∙ ap (λ x. after (then x (λ y. build s l.number y))) h ∙ ap after e
