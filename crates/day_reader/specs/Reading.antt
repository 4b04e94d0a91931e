-- What the text of a day is read as. Assumes nothing.
use Rattle.std.specs.Prelude.{ℕ, cond, List, [], ◌∷◌, ◌++◌, Ok, Err, Result, ◌==◌}
use Rattle.fault.specs.declared.Fault.{Fault}
use Rattle.fault.specs.Faults.{then}
use Rattle.text.specs.Building.{two_steps}
use Rattle.text.specs.Pieces.{pieces}
use Rattle.text.specs.Places.{letter_at}
use Rattle.text.specs.Reading.{tail_of, read_letter, read_number, read_end}
use Rattle.text.specs.Texts.{read_text}
use Rattle.day_reader.specs.declared.hand_in.HandIn.{HandIn}

-- line n, whose fields after the letter are f2
abbrev pub read_rest : ℕ → List (List ℕ) → Result HandIn Fault
read_rest n f2 =
    then (read_number n 2 0 255 f2) (λ channel.
    let f3 = tail_of f2 in
    then (read_number n 3 0 4294967295 f3) (λ value.
    then (read_end n 4 (tail_of f3)) (λ _.
    Ok (record { channel = channel; value = value }))))

-- line n with the fields fs: the letter is D
abbrev pub line_in : ℕ → List (List ℕ) → Result HandIn Fault
line_in n fs = then (read_letter n fs) (λ c. cond (c == 68) (read_rest n (tail_of fs)) (Err (letter_at n)))

-- line n by its bytes
abbrev pub parse : ℕ → List ℕ → Result HandIn Fault
parse n p = line_in n (pieces 44 p)

-- one more line
abbrev pub keep : List HandIn → ℕ → HandIn → Result (List HandIn) Fault
keep hs n h = Ok (hs ++ h ∷ [])

-- the lines of a text
abbrev pub reading : List ℕ → Result (List HandIn) Fault
reading t = read_text (two_steps parse keep) [] t
