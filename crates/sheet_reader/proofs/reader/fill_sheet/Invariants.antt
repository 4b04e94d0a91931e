use Rattle.sheet_reader.proofs.Filling.{ReadSoFar}
use Rattle.sheet_reader.proofs.reader.fill_sheet.Given as goal

abbrev pub invariant-loop-line : goal.invariant-loop-line
invariant-loop-line g l = ReadSoFar (g.S.Scheme.levels l.scheme) l.initial.text l.line-iterator l.named l.sheet
