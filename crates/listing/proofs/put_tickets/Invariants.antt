use Rattle.std.proofs.Common.{◌≡◌}
use Rattle.std.specs.Slice.Iter.{chunks_exact_rest, chunks_exact_size}
use Rattle.print.specs.Appending.{Appended}
use Rattle.listing.specs.Listing.{record_lines}
use Rattle.listing.proofs.put_tickets.Given as goal

-- all is written but the lines of the records that are left
abbrev pub invariant-loop-record : goal.invariant-loop-record
invariant-loop-record l =
    (goal.iterator-loop-record).can_next l.record-iterator
    × (goal.iterator-loop-record).is_finite l.record-iterator
    × (chunks_exact_size l.record-iterator ≡ 8)
    × Appended l.initial.out (record_lines l.bytes) (record_lines (chunks_exact_rest l.record-iterator)) l.out
