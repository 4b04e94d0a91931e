-- What is printed of a batch: a line for each ticket and the level of all, or the refusal. Assumes nothing.
use Rattle.std.specs.Prelude.{ℕ, zero, suc, ◌/◌, cond, List, [], ◌∷◌, ◌++◌, length, take, drop, Ok, Err, Result}
use Rattle.std.specs.List.{flat_map}
use Rattle.fault.specs.declared.Fault.{Fault}
use Rattle.fault.specs.Faults.{then}
use Rattle.levels.specs.Scheme.{Levels}
use Rattle.print.specs.declared.Entry.TheVariants.{Number}
use Rattle.print.specs.declared.Keyword.TheVariants as keyword
use Rattle.print.specs.Lines.{line_text, fault_line}
use Rattle.sheet.specs.declared.LevelSheet.{LevelSheet}
use Rattle.sheet.specs.Sheets.{checked}
use Rattle.ticket.specs.declared.Ticket.{Ticket}
use Rattle.ticket.specs.Tickets.{is_in, decoded}
use Rattle.batch.specs.Batches.{batch}
use Rattle.batch.specs.Level.{level_of}

abbrev pub ticket_line : Ticket → List ℕ
ticket_line t = line_text (cond (is_in t.channel) keyword.In keyword.Out) (Number t.channel ∷ Number t.value ∷ [])

abbrev pub level_line : ℕ → List ℕ
level_line level = line_text keyword.Batch (Number level ∷ [])

-- the part of the input that holds the tickets
abbrev pub tickets_part : ℕ
tickets_part = 3

abbrev pub told : Levels → LevelSheet → Result (List Ticket) Fault → List ℕ
told L sheet (Ok ts) = flat_map ticket_line ts ++ level_line (level_of L sheet ts)
told L sheet (Err f) = fault_line tickets_part f

abbrev pub listing : Levels → LevelSheet → List ℕ → List ℕ
listing L sheet bytes = told L sheet (then (checked L sheet) (λ _. batch bytes))

-- the line of a record, where it is a ticket
abbrev pub record_line : Result Ticket Fault → List ℕ
record_line (Ok t) = ticket_line t
record_line (Err f) = []

-- the lines of the first n records
abbrev pub first_lines : ℕ → List ℕ → List ℕ
first_lines zero bytes = []
first_lines (suc n) bytes = record_line (decoded (take 8 bytes)) ++ first_lines n (drop 8 bytes)

abbrev pub record_lines : List ℕ → List ℕ
record_lines bytes = first_lines (length bytes / 8) bytes
