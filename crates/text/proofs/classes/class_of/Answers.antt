use Rattle.std.proofs.Common.{rules}
use Rattle.text.proofs.Table.{entry_is_class}
use Rattle.text.proofs.classes.class_of.Goals as goal

pub returns : goal.returns
returns c = search (rules, entry_is_class)
