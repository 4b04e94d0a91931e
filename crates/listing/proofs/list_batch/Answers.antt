use Rattle.std.proofs.Common.{sym, arith}
use Rattle.std.proofs.lemmas.Grind.{common_steps}
use Rattle.listing.proofs.Records.{listing_accepted}
use Rattle.listing.proofs.list_batch.Goals as goal

pub returns-in_err-put_tickets-in-Ok : goal.returns-in_err-put_tickets-in-Ok
returns-in_err-put_tickets-in-Ok g c =
    let text = listing_accepted (g.S.Scheme.levels c.args.scheme.now) c.args.sheet.now c.args.bytes.now c.in-Ok.level (sym c.in-Ok.ensures.value) in
    rw text (grind (arith, common_steps))

pub returns-in_ok-put_tickets-in-Ok : goal.returns-in_ok-put_tickets-in-Ok
returns-in_ok-put_tickets-in-Ok g c =
    let text = listing_accepted (g.S.Scheme.levels c.args.scheme.now) c.args.sheet.now c.args.bytes.now c.in-Ok.level (sym c.in-Ok.ensures.value) in
    rw text (grind (arith, common_steps))
