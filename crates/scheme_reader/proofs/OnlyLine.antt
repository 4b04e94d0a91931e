-- A text that is one clean line is that line alone. Assumes nothing.
use Rattle.std.proofs.Common.{◌≡◌, ℕ, ◌≤◌, true, cond, eqb, leb, List, ◌∷◌, length, Ok, Err, Result, ap, ◌∙◌}
use Rattle.std.proofs.lemmas.List.{nil_from_length}
use Rattle.std.proofs.lemmas.Bool.{cond-true, cond-false, eqb-true, le-leb, not_from_true}
use Rattle.fault.specs.declared.Fault.{Fault}
use Rattle.text.specs.Lines.{is_clean, first_is_ragged, BeginsWith}
use Rattle.text.specs.Pieces.{pieces}
use Rattle.text.specs.Places.{ragged_at}
use Rattle.scheme_reader.specs.Reading.{only_piece, only_line}

module _ (t : List ℕ) (short : length t ≤ 8192) (p rest : List ℕ) (b : BeginsWith t p rest) where
  abbrev unless_ragged : List (List ℕ) → Result (List ℕ) Fault
  unless_ragged ps = cond (first_is_ragged ps) (Err (ragged_at 1)) (only_piece ps)

  behind_line : only_line t ≡ only_piece (p ∷ pieces 10 rest)
  behind_line =
      cond-true (leb (length t) 8192) _ _ (le-leb (length t) 8192 short)
      ∙ ap unless_ragged b.cut
      ∙ cond-false (first_is_ragged (p ∷ pieces 10 rest)) _ _ (not_from_true (is_clean p) b.clean)

  pub one_line : eqb (length rest) 0 ≡ true → only_line t ≡ Ok p
  one_line none = behind_line ∙ ap (λ r. only_piece (p ∷ pieces 10 r)) (nil_from_length rest (eqb-true (length rest) 0 none))
