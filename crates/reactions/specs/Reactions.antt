-- What is printed of a machine that is fed one ticket after another. Assumes nothing.
use Rattle.std.specs.Prelude.{ℕ, zero, suc, ◌+◌, ◌/◌, Bool, cond, List, [], ◌∷◌, ◌++◌, length, take, drop, replicate, Ok, Err, Result}
use Rattle.std.specs.List.{flat_map}
use Rattle.fault.specs.declared.Fault.{Fault}
use Rattle.fault.specs.Faults.{number_of}
use Rattle.machine.specs.Meaning.{Outcome, Meaning}
use Rattle.print.specs.declared.Entry.TheVariants.{Word, Number}
use Rattle.print.specs.declared.Keyword.TheVariants as keyword
use Rattle.print.specs.Lines.{line_text}
use Rattle.ticket.specs.declared.Ticket.{Ticket}
use Rattle.ticket.specs.Tickets.{decoded_in}

-- a ticket that the n-th in-ticket was answered by
abbrev pub made_line : ℕ → Ticket → List ℕ
made_line n t = line_text keyword.Out (Number n ∷ Number t.channel ∷ Number t.value ∷ [])

-- how the n-th reaction went: whether it stalled, and the steps taken
abbrev pub end_line : ℕ → Bool → ℕ → List ℕ
end_line n stalled steps = line_text keyword.Turn (Number n ∷ Word (cond stalled keyword.Stalled keyword.Ended) ∷ Number steps ∷ [])

abbrev pub refused_line : ℕ → Fault → List ℕ
refused_line n f = line_text keyword.Turn (Number n ∷ Word keyword.Refused ∷ Number (number_of f.reason) ∷ [])

abbrev pub outcome_lines : ℕ → Outcome → List ℕ
outcome_lines n o = flat_map (made_line n) o.made ++ end_line n o.stalled o.steps

-- the lines of one record, which may be no in-ticket
abbrev pub turn_lines : Meaning → ℕ → ℕ → List ℕ → Result Ticket Fault → List ℕ
turn_lines means allowance n words (Ok t) = outcome_lines n (means words t allowance)
turn_lines means allowance n words (Err f) = refused_line n f

-- and the words that it leaves
abbrev pub turn_words : Meaning → ℕ → List ℕ → Result Ticket Fault → List ℕ
turn_words means allowance words (Ok t) = (means words t allowance).words
turn_words means allowance words (Err f) = words

-- k records, behind n that left these words
abbrev pub lines_from : Meaning → ℕ → ℕ → ℕ → List ℕ → List ℕ → List ℕ
lines_from means allowance zero n words bytes = []
lines_from means allowance (suc k) n words bytes =
    turn_lines means allowance (n + 1) words (decoded_in (take 8 bytes))
    ++ lines_from means allowance k (n + 1) (turn_words means allowance words (decoded_in (take 8 bytes))) (drop 8 bytes)

-- the whole records of the bytes
abbrev pub lines_behind : Meaning → ℕ → ℕ → List ℕ → List ℕ → List ℕ
lines_behind means allowance n words bytes = lines_from means allowance (length bytes / 8) n words bytes

-- a machine fed all records, from words that are 0
abbrev pub reaction_lines : Meaning → ℕ → List ℕ → List ℕ
reaction_lines means allowance bytes = lines_behind means allowance 0 (replicate 16 0) bytes
