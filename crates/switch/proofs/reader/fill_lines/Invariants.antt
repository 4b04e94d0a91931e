use Rattle.switch.proofs.Filling.{ReadSoFar}
use Rattle.switch.proofs.reader.fill_lines.Given as goal

abbrev pub invariant-loop-line : goal.invariant-loop-line
invariant-loop-line l = ReadSoFar l.initial.text l.line-iterator l.count l.lines
