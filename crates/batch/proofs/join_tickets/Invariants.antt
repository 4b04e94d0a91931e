use Rattle.std.proofs.Common.{◌≡◌, ◌<◌}
use Rattle.std.specs.Slice.Iter.{chunks_exact_rest, chunks_exact_size}
use Rattle.batch.specs.Level.{join_tickets}
use Rattle.batch.proofs.join_tickets.Given as goal

-- the level so far joined with the tickets that are left is the level of all
abbrev pub invariant-loop-record : goal.invariant-loop-record
invariant-loop-record g l =
    (goal.iterator-loop-record g).can_next l.record-iterator
    × (goal.iterator-loop-record g).is_finite l.record-iterator
    × (chunks_exact_size l.record-iterator ≡ 8)
    × (l.level < (g.S.Scheme.levels l.scheme).count)
    × (join_tickets (g.S.Scheme.levels l.scheme) l.sheet l.level (chunks_exact_rest l.record-iterator)
    ≡ join_tickets (g.S.Scheme.levels l.scheme) l.sheet (g.S.Scheme.levels l.scheme).lowest l.bytes)
