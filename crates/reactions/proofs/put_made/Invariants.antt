use Rattle.std.proofs.Common.{drop}
use Rattle.std.specs.List.{flat_map}
use Rattle.print.specs.Appending.{Appended}
use Rattle.reactions.specs.Reactions.{made_line}
use Rattle.reactions.proofs.put_made.Given as goal

-- all is written but the tickets that are left
abbrev pub invariant-loop-ticket : goal.invariant-loop-ticket
invariant-loop-ticket l = Appended l.initial.out (flat_map (made_line l.n) l.tickets) (flat_map (made_line l.n) (drop l.ticket-index l.tickets)) l.out
