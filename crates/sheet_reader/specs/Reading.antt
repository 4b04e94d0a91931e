-- What the text of a level sheet is read as. Assumes nothing.
use Rattle.std.specs.Prelude.{◌≡◌, ℕ, cond, List, [], ◌∷◌, ◌++◌, Ok, Err, Result, ◌==◌, nat_lt}
use Rattle.fault.specs.declared.Fault.{Fault}
use Rattle.fault.specs.Faults.{then}
use Rattle.levels.specs.Scheme.{Levels}
use Rattle.sheet.specs.declared.LevelSheet.{LevelSheet}
use Rattle.sheet.specs.Sheets.{uniform}
use Rattle.text.specs.Building.{two_steps}
use Rattle.text.specs.Pieces.{pieces}
use Rattle.text.specs.Places.{letter_at, twice_at, level_at}
use Rattle.text.specs.Reading.{tail_of, read_letter, read_number, read_end}
use Rattle.text.specs.Texts.{read_text}
use Rattle.sheet_reader.specs.declared.line.Name.{Name}
use Rattle.sheet_reader.specs.declared.line.Name.TheVariants.{Channel, Variable}
use Rattle.sheet_reader.specs.declared.line.SheetLine.{SheetLine}
use Rattle.sheet_reader.specs.Naming.{has_name, sheet_of}

-- the name that the letter c and the first of the fields fs make in line n: C for a channel, V for a variable
abbrev pub read_name : ℕ → ℕ → List (List ℕ) → Result Name Fault
read_name n c fs =
    cond (c == 67) (then (read_number n 2 0 31 fs) (λ channel. Ok (Channel channel)))
    (cond (c == 86) (then (read_number n 2 0 15 fs) (λ variable. Ok (Variable variable))) (Err (letter_at n)))

-- line n with the fields fs
abbrev pub line_in : ℕ → List (List ℕ) → Result SheetLine Fault
line_in n fs =
    then (read_letter n fs) (λ c.
    let f2 = tail_of fs in
    then (read_name n c f2) (λ name.
    let f3 = tail_of f2 in
    then (read_number n 3 0 255 f3) (λ level.
    then (read_end n 4 (tail_of f3)) (λ _.
    Ok (record { name = name; level = level })))))

-- line n by its bytes
abbrev pub parse : ℕ → List ℕ → Result SheetLine Fault
parse n p = line_in n (pieces 44 p)

-- one more line, where its name has none yet and the scheme has its level
abbrev pub add : Levels → List SheetLine → ℕ → SheetLine → Result (List SheetLine) Fault
add L ls n l =
    cond (has_name ls l.name) (Err (twice_at n))
    (cond (nat_lt l.level L.count) (Ok (ls ++ l ∷ [])) (Err (level_at n 3)))

-- a text stands for the list of its lines: in another order they are another list, which gives the same levels
abbrev pub reading : Levels → List ℕ → Result (List SheetLine) Fault
reading L t = read_text (two_steps parse (add L)) [] t

abbrev pub answer : Result (List SheetLine) Fault → Result (Unit {0}) Fault
answer (Ok ls) = Ok tt
answer (Err f) = Err f

-- the lent sheet afterwards, where low is the lowest level; a refusal leaves zeros
abbrev pub sheet_after : ℕ → Result (List SheetLine) Fault → LevelSheet
sheet_after low (Ok ls) = sheet_of low ls
sheet_after low (Err f) = uniform 0

-- the answer r and the lent sheet that what was read leaves; a refusal leaves any
abbrev pub Filled : ℕ → Result (List SheetLine) Fault → Result (Unit {0}) Fault → LevelSheet → Type 0
Filled low (Ok ls) r after = (r ≡ Ok tt) × (after ≡ sheet_of low ls)
Filled low (Err f) r after = r ≡ Err f
