use Rattle.day_reader.proofs.Appending.{ReadSoFar}
use Rattle.day_reader.proofs.reader.append_records.Given as goal

abbrev pub invariant-loop-line : goal.invariant-loop-line
invariant-loop-line l = ReadSoFar l.initial.text l.line-iterator l.initial.records l.records
