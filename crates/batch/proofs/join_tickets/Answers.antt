use Rattle.std.proofs.Common.{◌≡◌, ◌<◌, length, Err, sym, refl, ap, ◌∙◌, arith}
use Rattle.std.specs.Slice.Iter.{chunks_exact_rest}
use Rattle.std.proofs.lemmas.Result.{err_from_is_err_and}
use Rattle.levels.specs.Scheme.{join_of}
use Rattle.levels.specs.Lattices.{lowest_level, join_level, join_some}
use Rattle.sheet.specs.Sheets.{channel_level}
use Rattle.sheet.proofs.Each.{channel_level_below}
use Rattle.batch.specs.Level.{join_tickets}
use Rattle.batch.proofs.Joining.{join_tickets_more, join_tickets_stops, join_tickets_none}
use Rattle.batch.proofs.join_tickets.Goals as goal

pub loop-record-init : goal.loop-record-init
loop-record-init g c =
    let low = lowest_level (g.met.S.Scheme.lattice c.args.scheme.now) in
    simp (c.into_iter-record-iterator.ensures.into_iter_gives, c.chunks_exact-record-items.ensures.size, c.chunks_exact-record-items.ensures.rest, c.lowest-level.ensures)
    (omega arith, omega arith, refl, low, refl)

-- both are levels, so there is a join
pub unwrap-level-requires : goal.unwrap-level-requires
unwrap-level-requires g c =
    let known = channel_level_below (g.met.S.Scheme.lattice c.args.scheme.now) c.args.sheet.now c.requires c.in_ok-ticket.ticket.channel in
    rw (c.join-join.ensures, c.channel_level.ensures, join_some (g.S.Scheme.levels c.args.scheme.now) _ _ c.loop-record.invariant.3 known)

pub loop-record-preserved : goal.loop-record-preserved
loop-record-preserved g c =
    let L = g.S.Scheme.levels c.args.scheme.now in
    let laws = g.met.S.Scheme.lattice c.args.scheme.now in
    let steps = c.in-Some.ensures.steps in
    let other = channel_level c.args.sheet.now c.in_ok-ticket.ticket.channel in
    let known = channel_level_below laws c.args.sheet.now c.requires c.in_ok-ticket.ticket.channel in
    let old = c.loop-record.invariant in
    let answer = c.join-join.ensures ∙ ap (join_of L c.loop-record.level) c.channel_level.ensures ∙ join_some L c.loop-record.level other old.3 known in
    let join : c.unwrap-level.result ≡ L.join c.loop-record.level other = cc in
    let more = join_tickets_more L c.args.sheet.now c.loop-record.level (chunks_exact_rest c.loop-record.record-iterator) c.in-Some.record.now (chunks_exact_rest c.next.new.self)
    steps.1.0 (steps.1.1 ∙ old.2) c.in_ok-ticket.ticket (sym c.in_ok-ticket.ensures.value) in
    let size = steps.0 ∙ old.2 in
    (omega (arith, size), omega arith, size, rw join (join_level laws c.loop-record.level other old.3 known), ap (λ j. join_tickets L c.args.sheet.now j (chunks_exact_rest c.next.new.self)) join ∙ sym more ∙ old.4)

pub returns-in_err-ticket : goal.returns-in_err-ticket
returns-in_err-ticket g c =
    let steps = c.in-Some.ensures.steps in
    let p = err_from_is_err_and c.from_residual.result c.from_residual.ensures.1 in
    let stops = join_tickets_stops (g.S.Scheme.levels c.args.scheme.now) c.args.sheet.now c.loop-record.level (chunks_exact_rest c.loop-record.record-iterator) c.in-Some.record.now (chunks_exact_rest c.next.new.self)
    steps.1.0 (steps.1.1 ∙ c.loop-record.invariant.2) c.in_err-ticket.field-0.0 (sym c.in_err-ticket.ensures.value) in
    p.1 ∙ ap Err p.2 ∙ sym stops ∙ c.loop-record.invariant.4

pub returns : goal.returns
returns g c =
    let short : length (chunks_exact_rest c.loop-record.record-iterator) < 8 = omega (arith, c.in-None.ensures.steps.1.0, c.loop-record.invariant.2) in
    sym (join_tickets_none (g.S.Scheme.levels c.args.scheme.now) c.args.sheet.now c.loop-record.level (chunks_exact_rest c.loop-record.record-iterator) short) ∙ c.loop-record.invariant.4
