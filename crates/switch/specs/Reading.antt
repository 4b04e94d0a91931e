-- What the text of a switch sheet is read as. Assumes nothing.
use Rattle.std.specs.Prelude.{◌≡◌, ℕ, ◌-◌, cond, List, [], ◌∷◌, ◌++◌, length, replicate, Some, None, Ok, Err, Option, Result, ◌==◌, nat_le}
use Rattle.fault.specs.declared.Fault.{Fault}
use Rattle.fault.specs.declared.Reason.TheVariants as reason
use Rattle.fault.specs.Faults.{unplaced, then}
use Rattle.text.specs.Fields.{dash_in}
use Rattle.text.specs.Building.{two_steps}
use Rattle.text.specs.Numbers.{number_in}
use Rattle.text.specs.Pieces.{pieces}
use Rattle.text.specs.Places.{letter_at, field_at, full_at}
use Rattle.text.specs.Reading.{head_of, tail_of, or_refused, read_letter, read_number, read_end}
use Rattle.text.specs.Texts.{read_text}
use Rattle.switch.specs.declared.line.SwitchLine.{SwitchLine}

-- the most lines of a sheet
abbrev pub sheet_limit : ℕ
sheet_limit = 64

-- what a lent place holds where no line was read into it
abbrev pub blank : SwitchLine
blank = record { state = 0; channel = 0; low = 0; high = 0; next = 0; out = None; value = 0 }

-- a channel that was read, as an out
abbrev pub as_out : Option ℕ → Option (Option ℕ)
as_out None = None
as_out (Some channel) = Some (Some channel)

-- `-` for no ticket, or an out channel
abbrev pub out_in : List ℕ → Option (Option ℕ)
out_in f = cond (dash_in f) (Some None) (as_out (number_in 16 31 f))

abbrev pub out_in_head : Option (List ℕ) → Option (Option ℕ)
out_in_head None = None
out_in_head (Some f) = out_in f

abbrev pub read_out : ℕ → List (List ℕ) → Result (Option ℕ) Fault
read_out n fs = or_refused (field_at n 7) (out_in_head (head_of fs))

-- a line that makes no ticket has the value 0
abbrev pub most_value : Option ℕ → ℕ
most_value None = 0
most_value (Some channel) = 4294967295

-- line n, whose fields after the letter are f2
abbrev pub read_rest : ℕ → List (List ℕ) → Result SwitchLine Fault
read_rest n f2 =
    then (read_number n 2 0 255 f2) (λ state.
    let f3 = tail_of f2 in
    then (read_number n 3 0 15 f3) (λ channel.
    let f4 = tail_of f3 in
    then (read_number n 4 0 4294967295 f4) (λ low.
    let f5 = tail_of f4 in
    then (read_number n 5 low 4294967295 f5) (λ high.
    let f6 = tail_of f5 in
    then (read_number n 6 0 255 f6) (λ next.
    let f7 = tail_of f6 in
    then (read_out n f7) (λ out.
    let f8 = tail_of f7 in
    then (read_number n 8 0 (most_value out) f8) (λ value.
    then (read_end n 9 (tail_of f8)) (λ _.
    Ok (record { state = state; channel = channel; low = low; high = high; next = next; out = out; value = value })))))))))

-- line n with the fields fs: the letter is T
abbrev pub line_in : ℕ → List (List ℕ) → Result SwitchLine Fault
line_in n fs = then (read_letter n fs) (λ c. cond (c == 84) (read_rest n (tail_of fs)) (Err (letter_at n)))

-- line n by its bytes
abbrev pub parse : ℕ → List ℕ → Result SwitchLine Fault
parse n p = line_in n (pieces 44 p)

-- one more line, where there is room
abbrev pub keep : List SwitchLine → ℕ → SwitchLine → Result (List SwitchLine) Fault
keep ls n l = cond (nat_le sheet_limit (length ls)) (Err (full_at n)) (Ok (ls ++ l ∷ []))

-- the lines of a text
abbrev pub reading : List ℕ → Result (List SwitchLine) Fault
reading t = read_text (two_steps parse keep) [] t

abbrev pub counted : Result (List SwitchLine) Fault → Result ℕ Fault
counted (Ok ls) = Ok (length ls)
counted (Err f) = Err f

-- n lent lines that hold what was read, and blanks behind it; a refusal leaves blanks alone
abbrev pub padded : ℕ → Result (List SwitchLine) Fault → List SwitchLine
padded n (Ok ls) = ls ++ replicate (n - length ls) blank
padded n (Err f) = replicate n blank

-- the answer where n lines are lent
abbrev pub answer : ℕ → List ℕ → Result ℕ Fault
answer n t = cond (nat_le sheet_limit n) (counted (reading t)) (Err (unplaced reason.Slip))

-- the lent lines afterwards; where they are too few, they are as before
abbrev pub lines_after : List ℕ → List SwitchLine → List SwitchLine
lines_after t before = cond (nat_le sheet_limit (length before)) (padded (length before) (reading t)) before

-- the answer r and the lent lines that what was read leaves; a refusal leaves any
abbrev pub Filled : Result (List SwitchLine) Fault → Result ℕ Fault → List SwitchLine → Type 0
Filled (Ok ls) r after = (r ≡ Ok (length ls)) × (after ≡ padded (length after) (Ok ls))
Filled (Err f) r after = r ≡ Err f
