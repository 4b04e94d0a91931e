-- What the text of a scheme is read as. Assumes nothing.
use Rattle.std.specs.Prelude.{ℕ, cond, List, [], ◌∷◌, length, Ok, Err, codes, Result, ◌==◌, nat_le}
use Rattle.std.specs.Str.{bytes_eq}
use Rattle.fault.specs.declared.Fault.{Fault}
use Rattle.fault.specs.declared.Reason.TheVariants as reason
use Rattle.fault.specs.Faults.{unplaced, then}
use Rattle.levels.specs.Chain.{chain, is_chain}
use Rattle.levels.specs.Parties.{parties, is_parties}
use Rattle.levels.specs.Scheme.{Levels}
use Rattle.text.specs.declared.line.Line.{Line}
use Rattle.text.specs.Lines.{text_limit, first_is_ragged}
use Rattle.text.specs.Pieces.{pieces}
use Rattle.text.specs.Places.{ragged_at, letter_at, level_at}
use Rattle.text.specs.Reading.{tail_of, read_number, read_end}
use Rattle.scheme_reader.specs.declared.SchemeChoice.{SchemeChoice}
use Rattle.scheme_reader.specs.declared.SchemeChoice.TheVariants as choice

-- a scheme by its word and its size
pub data SizedScheme : Type 0 where
  chain_of : ℕ → SizedScheme
  parties_of : ℕ → SizedScheme

-- the levels that it has
abbrev pub levels_of : SizedScheme → Levels
levels_of (chain_of n) = chain n
levels_of (parties_of n) = parties n

abbrev pub size_of : SchemeChoice → SizedScheme
size_of (choice.Chain c) = chain_of c.count
size_of (choice.Parties p) = parties_of p.number

-- what an answer tells
abbrev pub told : Result SchemeChoice Fault → Result SizedScheme Fault
told (Ok s) = Ok (size_of s)
told (Err f) = Err f

-- the field behind the word, which is the last one
abbrev pub size_in : List (List ℕ) → Result ℕ Fault
size_in fs = then (read_number 1 2 0 255 fs) (λ n. then (read_end 1 3 (tail_of fs)) (λ _. Ok n))

-- a chain of 1 to 16 levels
abbrev pub chain_in : List (List ℕ) → Result SizedScheme Fault
chain_in fs = then (size_in fs) (λ n. cond (is_chain n) (Ok (chain_of n)) (Err (level_at 1 2)))

-- the sets of 0 to 4 parties
abbrev pub parties_in : List (List ℕ) → Result SizedScheme Fault
parties_in fs = then (size_in fs) (λ n. cond (is_parties n) (Ok (parties_of n)) (Err (level_at 1 2)))

-- the line with these fields: the first is one of two words
abbrev pub line_in : List (List ℕ) → Result SizedScheme Fault
line_in [] = Err (letter_at 1)
line_in (f ∷ fs) = cond (bytes_eq f (codes "chain")) (chain_in fs) (cond (bytes_eq f (codes "parties")) (parties_in fs) (Err (letter_at 1)))

-- the one line of a text whose first line is not ragged, by its pieces: nothing stands behind its line feed
abbrev pub only_piece : List (List ℕ) → Result (List ℕ) Fault
only_piece [] = Err (unplaced reason.Field)
only_piece (p ∷ []) = Err (unplaced reason.Field)
only_piece (p ∷ q ∷ []) = cond (length q == 0) (Ok p) (Err (unplaced reason.Field))
only_piece (p ∷ q ∷ r ∷ rs) = Err (unplaced reason.Field)

-- the one line of a text; where there are fewer or more, the refusal has no place
abbrev pub only_line : List ℕ → Result (List ℕ) Fault
only_line t =
    cond (nat_le (length t) text_limit)
    (cond (first_is_ragged (pieces 10 t)) (Err (ragged_at 1)) (only_piece (pieces 10 t)))
    (Err (unplaced reason.Overlong))

-- the bytes of a line that was found
abbrev pub seen : Result Line Fault → Result (List ℕ) Fault
seen (Ok line) = Ok line.bytes.now
seen (Err f) = Err f

abbrev pub reading : List ℕ → Result SizedScheme Fault
reading t = then (only_line t) (λ p. line_in (pieces 44 p))
