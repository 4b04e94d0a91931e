use Rattle.std.proofs.Common.{◌-◌, length}
use Rattle.text.specs.Reading.{left_of, line_of}
use Rattle.program.proofs.Collecting.{ReadSoFar}
use Rattle.program.proofs.terms.expression.Given as goal

abbrev pub invariant-loop-lacking : goal.invariant-loop-lacking
invariant-loop-lacking l = ReadSoFar (line_of l.initial.fields) l.place (left_of l.initial.fields) (line_of l.fields) (left_of l.fields) l.lacking l.terms.items

abbrev pub decreases-loop-lacking : goal.decreases-loop-lacking
decreases-loop-lacking l = 16 - length l.terms.items
