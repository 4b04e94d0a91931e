use Rattle.std.proofs.Common.{◌≡◌, ◌+◌, ◌≤◌, length, drop}
use Rattle.flat_form.specs.Fitting.{makes}
use Rattle.flat_form.proofs.fit.is_expression.Given as goal

abbrev pub invariant-loop-term : goal.invariant-loop-term
invariant-loop-term l = (makes 1 l.terms ≡ makes l.lacking (drop l.term-index l.terms)) × (l.lacking ≤ l.term-index + 1) × (length l.terms ≤ 15)
