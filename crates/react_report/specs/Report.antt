-- What is printed of an input that is a machine's text, a line `-`, and in-tickets. Assumes nothing.
use Rattle.std.specs.Prelude.{ℕ, ◌%◌, Bool, true, false, cond, List, [], ◌∷◌, length, Some, None, Ok, Err, Option, Result, ◌==◌}
use Rattle.fault.specs.declared.Fault.{Fault}
use Rattle.fault.specs.declared.Reason.TheVariants as reason
use Rattle.fault.specs.Faults.{unplaced}
use Rattle.language.specs.Step.{reaction}
use Rattle.machine.specs.Meaning.{Meaning}
use Rattle.parts.specs.Parts.{before_mark, after_mark}
use Rattle.print.specs.Lines.{fault_line}
use Rattle.program.specs.Reading as program
use Rattle.program.specs.Trees.{tree_of}
use Rattle.reactions.specs.Reactions.{reaction_lines}
use Rattle.switch.specs.Reading.{reading, padded}
use Rattle.switch_machine.specs.Switching.{switched}

-- the steps that a reaction may take
abbrev pub allowance : ℕ
allowance = 1000

-- the machine fed the tickets of part 2, which have to be whole
abbrev pub fed_lines : Meaning → List ℕ → List ℕ
fed_lines means bytes = cond (length bytes % 8 == 0) (reaction_lines means allowance bytes) (fault_line 2 (unplaced reason.Record))

-- and the machine that part 1 was read as, if it was
abbrev pub machine_lines : {M : Type 0} → (M → Meaning) → Result M Fault → List ℕ → List ℕ
machine_lines meaning (Ok m) bytes = fed_lines (meaning m) bytes
machine_lines meaning (Err f) bytes = fault_line 1 f

abbrev pub switch_report : List ℕ → List ℕ → List ℕ
switch_report text bytes = machine_lines (λ ls. switched (padded 64 (Ok ls))) (reading text) bytes

abbrev pub program_report : List ℕ → List ℕ → List ℕ
program_report text bytes = machine_lines (λ s. reaction (tree_of s.rows s.terms)) (program.reading text) bytes

-- a switch sheet begins with the letter T, which no site program does
abbrev pub is_switch_sheet : List ℕ → Bool
is_switch_sheet [] = false
is_switch_sheet (b ∷ bs) = b == 84

-- an input without the line `-` is refused as a whole
abbrev pub part_lines : List ℕ → Option (List ℕ) → List ℕ
part_lines text None = fault_line 0 (unplaced reason.Field)
part_lines text (Some bytes) = cond (is_switch_sheet text) (switch_report text bytes) (program_report text bytes)

abbrev pub report : List ℕ → List ℕ
report input = part_lines (before_mark true input) (after_mark true input)
