-- How a table of joins fills. Assumes nothing.
use Rattle.std.proofs.Common.{◌≡◌, ℕ, ◌+◌, ◌<◌, ◌≤◌, ◌≢◌, List, [], length, get_or, set, replicate, sym, refl, ap, ◌∙◌, ⊎_elim, arith, length-set, get_or-set_other, get_or-set_same, below_more}
use lib.ListN.{get_or-replicate}
use Rattle.std.proofs.lemmas.Bool.{cases_eq}
use Rattle.levels.specs.Scheme.{Levels, Lattice}
use Rattle.levels.specs.Lattices.{join_level}
use Rattle.label_check.specs.Joins.{entry, Filled}

pub filled_none : (L : Levels) → Filled L (replicate 16 (replicate 16 0)) 0 0
filled_none L = record {
  tall = refl;
  wide = λ k h. ap length (get_or-replicate 16 k (replicate 16 0) [] h);
  small = λ a b ha hb.
      let e : entry (replicate 16 (replicate 16 0)) a b ≡ 0 = ap (λ (r : List ℕ). get_or r b 0) (get_or-replicate 16 a (replicate 16 0) [] ha) ∙ get_or-replicate 16 b 0 0 hb in
      omega arith;
  rows = λ a b ha hb. absurd (omega arith);
  row = λ k h. absurd (omega arith);
}

module _ {L : Levels} (laws : Lattice L) (t : List (List ℕ)) where
  pub filled_put : (n m j : ℕ) → n < L.count → m < L.count → L.join n m ≡ j → Filled L t n m → Filled L (set t n (set (get_or t n []) m j)) n (m + 1)
  filled_put n m j hn hm e f =
      let few = laws.sized.1 in
      let level = join_level laws n m hn hm in
      let tall = f.tall in
      let wide : length (get_or t n []) ≡ 16 = f.wide n (omega arith) in
      let within : n < length t = omega arith in
      let inside : m < length (get_or t n []) = omega arith in
      let here : get_or (set t n (set (get_or t n []) m j)) n [] ≡ set (get_or t n []) m j = get_or-set_same t n (set (get_or t n []) m j) [] within in
      let put : entry (set t n (set (get_or t n []) m j)) n m ≡ j = rw (here, get_or-set_same) in
      record {
        tall = simp length-set tall;
        wide = λ k h. ⊎_elim (λ (q : k ≡ n). rw (q, here, length-set) wide) (λ (q : k ≢ n). rw get_or-set_other (f.wide k h)) (cases_eq k n);
        small = λ a b ha hb. ⊎_elim
            (λ (q : a ≡ n). ⊎_elim (λ (r : b ≡ m). rw (q, r) (omega arith)) (λ (r : b ≢ m). rw (q, here, get_or-set_other) (f.small n b (omega arith) hb)) (cases_eq b m))
            (λ (q : a ≢ n). rw get_or-set_other (f.small a b ha hb)) (cases_eq a n);
        rows = λ a b ha hb. let ne : a ≢ n = omega arith in rw get_or-set_other (f.rows a b ha hb);
        row = below_more (λ k. entry (set t n (set (get_or t n []) m j)) n k ≡ L.join n k) m
            (λ k h. let ne : k ≢ m = omega arith in rw (here, get_or-set_other) (f.row k h))
            (put ∙ sym e);
      }

  pub filled_row : (n m : ℕ) → L.count ≤ m → Filled L t n m → Filled L t (n + 1) 0
  filled_row n m h f = record {
    tall = f.tall;
    wide = f.wide;
    small = f.small;
    rows = λ a b ha hb. ⊎_elim (λ (q : a ≡ n). rw q (f.row b (omega arith))) (λ (q : a ≢ n). f.rows a b (omega arith) hb) (cases_eq a n);
    row = λ k h. absurd (omega arith);
  }
