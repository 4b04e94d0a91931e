-- A text in parts, between lines that are `-` alone. Assumes nothing.
use Rattle.std.specs.Prelude.{◌≡◌, ℕ, ◌+◌, ◌<◌, ◌≤◌, Bool, true, false, cond, ◌&&◌, List, [], ◌∷◌, ◌++◌, length, drop, Some, None, Option, ◌==◌, nat_le, count_by, slice_index}
use Rattle.std.specs.Borrow.{Bor}

-- where start tells whether a line begins with these bytes: they begin with a line that is `-` alone
abbrev pub is_mark : Bool → List ℕ → Bool
is_mark start bytes = start && (nat_le 2 (length bytes) && (slice_index bytes 0 == 45 && slice_index bytes 1 == 10))

-- a line feed stands at k, and behind it a line that is `-` alone
abbrev pub is_mark_at : List ℕ → ℕ → Bool
is_mark_at text k = slice_index text k == 10 && (slice_index text (k + 1) == 45 && slice_index text (k + 2) == 10)

-- the answer is the first such line feed, if there is one
abbrev pub FirstMark : List ℕ → Option ℕ → Type 0
FirstMark text None = (k : ℕ) → k + 3 ≤ length text → is_mark_at text k ≡ false
FirstMark text (Some i) = (i + 3 ≤ length text) × (is_mark_at text i ≡ true) × ((k : ℕ) → k < i → is_mark_at text k ≡ false)

-- what stands before the first line that is `-` alone
abbrev pub before_mark : Bool → List ℕ → List ℕ
before_mark start [] = []
before_mark start (b ∷ bs) = cond (is_mark start (b ∷ bs)) [] (b ∷ before_mark (b == 10) bs)

-- and what follows it, where there is one
abbrev pub after_mark : Bool → List ℕ → Option (List ℕ)
after_mark start [] = None
after_mark start (b ∷ bs) = cond (is_mark start (b ∷ bs)) (Some (drop 1 bs)) (after_mark (b == 10) bs)

abbrev pub bytes_if_any : Option (Bor (List ℕ)) → Option (List ℕ)
bytes_if_any None = None
bytes_if_any (Some bytes) = Some bytes.now

-- the part, the line `-` and the rest are the text; a text without such a line is one part
abbrev pub Cuts : List ℕ → List ℕ → Option (List ℕ) → Type 0
Cuts text part None = text ≡ part
Cuts text part (Some rest) = text ≡ part ++ 45 ∷ 10 ∷ rest

-- how many line feeds there are
abbrev pub feeds : List ℕ → ℕ
feeds bytes = count_by (λ b. b == 10) bytes

abbrev pub is_one_line : List ℕ → Bool
is_one_line text = feeds text == 1
