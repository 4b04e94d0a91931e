use Rattle.std.proofs.Common.{◌-◌, length}
use Rattle.interpreter.proofs.fold.+fold_first.Given as goal

abbrev pub decreases-fold_first : goal.decreases-fold_first
decreases-fold_first g l = length l.terms.now - l.at
