use Rattle.program.proofs.Filling.{ReadSoFar}
use Rattle.program.proofs.reader.fill_tables.Given as goal

abbrev pub invariant-loop-line : goal.invariant-loop-line
invariant-loop-line l = ReadSoFar l.initial.text l.line-iterator l.progress l.rows l.terms
