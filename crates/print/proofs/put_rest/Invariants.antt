use Rattle.std.proofs.Common.{drop}
use Rattle.print.specs.Appending.{Appended}
use Rattle.print.specs.Lines.{rest_text}
use Rattle.print.proofs.put_rest.Given as goal

-- all is written but the entries that are left
abbrev pub invariant-loop-entry : goal.invariant-loop-entry
invariant-loop-entry l = Appended l.initial.out (rest_text l.entries) (rest_text (drop l.entry-index l.entries)) l.out
