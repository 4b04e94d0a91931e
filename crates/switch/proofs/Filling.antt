-- The loop that reads the lines of a text into lent lines. Assumes nothing.
use Rattle.std.proofs.Common.{◌≡◌, ℕ, ◌+◌, ◌-◌, ◌<◌, ◌≤◌, leb, List, [], ◌∷◌, ◌++◌, length, take, drop, set, replicate, Ok, sym, ap, ◌∙◌, arith, length-set}
use Rattle.std.proofs.lemmas.List.{take_more_set, drop-set-lt, drop-drop, drop-replicate, length-take-le}
use Rattle.std.proofs.lemmas.Bool.{cond-false, lt-leb}
use Rattle.text.specs.declared.line.Line.{Line}
use Rattle.text.specs.declared.lines.Lines.{Lines}
use Rattle.text.specs.Building.{two_steps}
use Rattle.text.specs.Numbered.{Gives}
use Rattle.text.proofs.Steps.{read_on, line_is_built}
use Rattle.switch.specs.declared.line.SwitchLine.{SwitchLine}
use Rattle.switch.specs.Reading.{sheet_limit, blank, parse, keep, reading}

-- count lines are read, blanks follow them, and what is left gives the result
pub record ReadSoFar (text : List ℕ) (left : Lines) (count : ℕ) (lines : List SwitchLine) : Type 0 where
  pub few : count ≤ sheet_limit
  pub room : sheet_limit ≤ length lines
  pub rest : drop count lines ≡ replicate (length lines - count) blank
  pub same : reading text ≡ read_on (two_steps parse keep) (take count lines) left

module _ {text : List ℕ} {left : Lines} {count : ℕ} {lines : List SwitchLine} (s : ReadSoFar text left count lines) where
  taken : length (take count lines) ≡ count
  taken = length-take-le count lines (let a = s.few in let b = s.room in omega arith)

  module _ {l : Line} {next : Lines} (g : Gives left l next) (read : SwitchLine) (h : parse l.number l.bytes.now ≡ Ok read) where
    kept_line : count < 64 → reading text ≡ read_on (two_steps parse keep) (take count lines ++ read ∷ []) next
    kept_line lt =
        let t = taken in
        s.same
        ∙ line_is_built parse keep (take count lines) g read (Ok (take count lines ++ read ∷ [])) h
        (cond-false (leb 64 (length (take count lines))) _ _ (lt-leb 64 (length (take count lines)) (omega arith)))

    pub one_more : count < 64 → ReadSoFar text next (count + 1) (set lines count read)
    one_more lt =
        let t = taken in
        let r = s.room in
        let long = length-set lines count read in
        record {
          few = omega arith;
          room = omega arith;
          rest =
              drop-set-lt (count + 1) lines count read (omega arith)
              ∙ sym (drop-drop 1 count lines)
              ∙ ap (drop 1) s.rest
              ∙ drop-replicate 1 (length lines - count) blank
              ∙ ap (λ n. replicate n blank) (let z : length lines - count - 1 ≡ length (set lines count read) - (count + 1) = omega arith in z);
          same = kept_line lt ∙ ap (λ ls. read_on (two_steps parse keep) ls next) (sym (take_more_set lines count read (omega arith)));
        }
