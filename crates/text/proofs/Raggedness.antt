-- What the cut of a line finds. Assumes nothing.
use Rattle.std.proofs.Common.{◌≡◌, ℕ, true, false, not, eqb, List, [], ◌∷◌, length, Some, None, Option, sym, ap, ◌∙◌, Bor}
use Rattle.text.specs.Lines.{is_clean, first_is_ragged}
use Rattle.text.specs.Pieces.{pieces, pieces_left}
use Rattle.text.proofs.Cutting.{one_piece}

module _ (left p : List ℕ) (o : Option (Bor (List ℕ))) (e : pieces 10 left ≡ p ∷ pieces_left 10 o) where
  pub unfed_is_ragged : o ≡ None → eqb (length left) 0 ≡ false → first_is_ragged (pieces 10 left) ≡ true
  unfed_is_ragged n some =
      let q : pieces 10 left ≡ p ∷ [] = e ∙ ap (λ r. p ∷ pieces_left 10 r) n in
      ap first_is_ragged q ∙ ap (λ bs. not (eqb (length bs) 0)) (sym (one_piece 10 left p q)) ∙ ap not some

  pub line_and_rest : (rest : Bor (List ℕ)) → o ≡ Some rest → pieces 10 left ≡ p ∷ pieces 10 rest.now
  line_and_rest rest s = e ∙ ap (λ r. p ∷ pieces_left 10 r) s

  pub unclean_is_ragged : (rest : Bor (List ℕ)) → o ≡ Some rest → is_clean p ≡ false → first_is_ragged (pieces 10 left) ≡ true
  unclean_is_ragged rest s u = ap first_is_ragged (line_and_rest rest s) ∙ ap not u
