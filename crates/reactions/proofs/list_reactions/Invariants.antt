use Rattle.std.proofs.Common.{◌≡◌, ◌+◌, ◌*◌, length}
use Rattle.std.specs.Iterator.Adapters.{zip_first, zip_second}
use Rattle.std.specs.Slice.Iter.{chunks_exact_rest, chunks_exact_size}
use Rattle.print.specs.Appending.{Appended}
use Rattle.reactions.specs.Reactions.{lines_behind, reaction_lines}
use Rattle.reactions.proofs.list_reactions.Given as goal

-- all is written but the lines of the records that are left, behind n
abbrev pub invariant-loop-record : goal.invariant-loop-record
invariant-loop-record g l =
    let records = zip_first l.record-iterator in
    let n = length l.yielded in
    (goal.iterator-loop-record g).can_next l.record-iterator
    × (goal.iterator-loop-record g).is_finite l.record-iterator
    × (chunks_exact_size records ≡ 8)
    × ((zip_second l.record-iterator).start ≡ n + 1)
    × (8 * n + length (chunks_exact_rest records) ≡ length l.bytes)
    × Appended l.initial.out (reaction_lines (g.M.Machine.meaning l.machine) l.allowance l.bytes)
    (lines_behind (g.M.Machine.meaning l.machine) l.allowance n l.words (chunks_exact_rest records)) l.out
