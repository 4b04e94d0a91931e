-- Bytes are cut into pieces, and joined again. Assumes nothing.
use Rattle.std.proofs.Common.{◌≡◌, ℕ, zero, suc, ◌+◌, ◌-◌, ◌<◌, ◌≤◌, Bool, true, false, cond, eqb, List, [], ◌∷◌, ◌++◌, length, get_or, take, drop, sym, refl, ap, ◌∙◌, subst, append-nil, add-one, arith, length-append}
use Rattle.std.proofs.lemmas.List.{take_all, take_rest}
use Rattle.std.proofs.lemmas.Bool.{eqb-true, eq-eqb, ne_eqb}
use Rattle.std.specs.List.{AllByRecursion}
use Rattle.text.specs.Pieces.{first, others, pieces, marked, joined}

-- no mark m stands in the bytes
abbrev pub Free : ℕ → List ℕ → Type 0
Free m [] = Unit {0}
Free m (b ∷ bs) = (eqb b m ≡ false) × Free m bs

first_free : (m : ℕ) (bs : List ℕ) → Free m bs → first m bs ≡ bs
first_free m [] f = refl
first_free m (b ∷ bs) f = rw f.0 (ap (λ l. b ∷ l) (first_free m bs f.1))

others_free : (m : ℕ) (bs : List ℕ) → Free m bs → others m bs ≡ []
others_free m [] f = refl
others_free m (b ∷ bs) f = rw f.0 (others_free m bs f.1)

first_mark : (m : ℕ) (p t : List ℕ) → Free m p → first m (p ++ m ∷ t) ≡ p
first_mark m [] t f = rw (eq-eqb m m refl)
first_mark m (b ∷ p) t f = rw f.0 (ap (λ l. b ∷ l) (first_mark m p t f.1))

others_mark : (m : ℕ) (p t : List ℕ) → Free m p → others m (p ++ m ∷ t) ≡ pieces m t
others_mark m [] t f = rw (eq-eqb m m refl)
others_mark m (b ∷ p) t f = rw f.0 (others_mark m p t f.1)

pieces_free : (m : ℕ) (p : List ℕ) → Free m p → pieces m p ≡ p ∷ []
pieces_free m p f = rw (first_free m p f, others_free m p f)

pub pieces_mark : (m : ℕ) (p t : List ℕ) → Free m p → pieces m (p ++ m ∷ t) ≡ p ∷ pieces m t
pieces_mark m p t f = rw (first_mark m p t f, others_mark m p t f)

free_below : (m n : ℕ) (bs : List ℕ) → ((k : ℕ) → k < n → get_or bs k 0 ≡ m → ⊥) → Free m (take n bs)
free_below m zero bs h = tt
free_below m (suc n) [] h = tt
free_below m (suc n) (b ∷ bs) h = (ne_eqb b m (h 0 (omega arith)), free_below m n bs (λ k lt. h (suc k) (omega arith)))

parted : (m n : ℕ) (bs : List ℕ) → n < length bs → get_or bs n 0 ≡ m → bs ≡ take n bs ++ m ∷ drop (suc n) bs
parted m n [] lt e = absurd (omega arith)
parted m zero (b ∷ bs) lt e = ap (λ x. x ∷ bs) e
parted m (suc n) (b ∷ bs) lt e = ap (λ l. b ∷ l) (parted m n bs (omega arith) e)

-- the cut at the first mark, which stands at the place n; or there is none
pub cut_some : (m n : ℕ) (bs : List ℕ) → n < length bs → ((k : ℕ) → k < n → get_or bs k 0 ≡ m → ⊥) → get_or bs n 0 ≡ m → pieces m bs ≡ take n bs ∷ pieces m (take (length bs - (n + 1)) (drop (n + 1) bs))
cut_some m n bs lt none e =
    rw add-one (ap (pieces m) (parted m n bs lt e) ∙ pieces_mark m (take n bs) (drop (suc n) bs) (free_below m n bs none))
    ∙ ap (λ r. take n bs ∷ pieces m r) (sym (take_rest bs (n + 1)))

pub cut_none : (m n : ℕ) (bs : List ℕ) → length bs ≤ n → ((k : ℕ) → k < n → get_or bs k 0 ≡ m → ⊥) → pieces m bs ≡ bs ∷ []
cut_none m n bs le none = pieces_free m bs (subst (λ (x : List ℕ). Free m x) (take_all n bs le) (free_below m n bs none))

-- pieces are the bytes again when they are joined
by_mark : (m b : ℕ) (bs : List ℕ) (t : Bool) → eqb b m ≡ t → first m bs ++ marked m (others m bs) ≡ bs → joined m (cond t ([] ∷ pieces m bs) ((b ∷ first m bs) ∷ others m bs)) ≡ b ∷ bs
by_mark m b bs true e h = ap (λ x. x ∷ (first m bs ++ marked m (others m bs))) (sym (eqb-true b m e)) ∙ ap (λ l. b ∷ l) h
by_mark m b bs false e h = ap (λ l. b ∷ l) h

cond_pieces : (t : Bool) (b : ℕ) (p : List ℕ) (ps : List (List ℕ)) → cond t [] (b ∷ p) ∷ cond t (p ∷ ps) ps ≡ cond t ([] ∷ p ∷ ps) ((b ∷ p) ∷ ps)
cond_pieces true b p ps = refl
cond_pieces false b p ps = refl

pub pieces_rejoin : (m : ℕ) (bs : List ℕ) → joined m (pieces m bs) ≡ bs
pieces_rejoin m [] = refl
pieces_rejoin m (b ∷ bs) = ap (joined m) (cond_pieces (eqb b m) b (first m bs) (others m bs)) ∙ by_mark m b bs (eqb b m) refl (pieces_rejoin m bs)

-- a first piece, and what follows its mark
pub parts_again : (m : ℕ) (bs p t : List ℕ) → pieces m bs ≡ p ∷ pieces m t → bs ≡ p ++ m ∷ t
parts_again m bs p t e = sym (pieces_rejoin m bs) ∙ ap (joined m) e ∙ ap (λ l. p ++ m ∷ l) (pieces_rejoin m t)

pub shorter : (m : ℕ) (bs p t : List ℕ) → pieces m bs ≡ p ∷ pieces m t → length t < length bs
shorter m bs p t e = let l = ap length (parts_again m bs p t e) ∙ length-append p (m ∷ t) in omega arith

pub one_piece : (m : ℕ) (bs p : List ℕ) → pieces m bs ≡ p ∷ [] → bs ≡ p
one_piece m bs p e = sym (pieces_rejoin m bs) ∙ ap (joined m) e ∙ append-nil p

-- pieces that hold no mark are cut again where they were joined
pub joined_pieces_part : (m : ℕ) (p : List ℕ) (ps : List (List ℕ)) → Free m p → AllByRecursion (Free m) ps → pieces m (joined m (p ∷ ps)) ≡ p ∷ ps
joined_pieces_part m p [] f fs = ap (pieces m) (append-nil p) ∙ pieces_free m p f
joined_pieces_part m p (q ∷ qs) f fs = pieces_mark m p (joined m (q ∷ qs)) f ∙ ap (λ l. p ∷ l) (joined_pieces_part m q qs fs.0 fs.1)
