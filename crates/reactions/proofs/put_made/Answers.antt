use Rattle.std.proofs.Common.{◌+◌, get_or, drop}
use Rattle.std.proofs.lemmas.List.{at_drop_more}
use Rattle.std.specs.List.{flat_map}
use Rattle.print.proofs.Appending.{appended_short}
use Rattle.ticket.specs.declared.Ticket.{Ticket}
use Rattle.reactions.specs.Reactions.{made_line}
use Rattle.reactions.proofs.put_made.Goals as goal

-- what `get_or` answers past the end of a list of tickets
abbrev blank : Ticket
blank = record { channel = 0; value = 0 }

pub returns-in_err-put_ticket : goal.returns-in_err-put_ticket
returns-in_err-put_ticket c =
    let ts = c.args.tickets.now in
    let i = c.loop-ticket.ticket-index in
    let lines = flat_map (made_line c.args.n) in
    appended_short c.args.out.now _ _ (made_line c.args.n (get_or ts i blank)) (lines (drop (i + 1) ts)) (at_drop_more lines ts i blank c.loop-ticket-test.true)
    c.loop-ticket.out _ c.loop-ticket.invariant _ _ c.from_residual.ensures.0 c.in_err-put_ticket.ensures
