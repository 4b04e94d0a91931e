use Rattle.std.proofs.Common.{◌≡◌, [], ◌∷◌, ◌++◌, length, ap, ◌∙◌, arith, length-append}
use Rattle.std.specs.Iterator.Adapters.{zip_first}
use Rattle.std.specs.Slice.Iter.{chunks_exact_rest}
use Rattle.print.proofs.Appending.{appended_more, appended_short}
use Rattle.reactions.proofs.Turns.{lines_behind_more}
use Rattle.reactions.proofs.list_reactions.Goals as goal

pub loop-record-preserved : goal.loop-record-preserved
loop-record-preserved g c =
    let (chunk, number) = c.in-Some.ensures.steps in
    let rest = chunks_exact_rest (zip_first c.next.new.self) in
    let size = c.loop-record.invariant.2 in
    let count : length (c.loop-record.yielded ++ (c.in-Some.record, c.in-Some.n) ∷ []) ≡ c.in-Some.n =
    omega (arith, length-append c.loop-record.yielded ((c.in-Some.record, c.in-Some.n) ∷ []), number.0, c.loop-record.invariant.3) in
    let more = lines_behind_more (g.M.Machine.meaning c.args.machine.now) c.args.allowance (length c.loop-record.yielded) c.loop-record.words _ c.in-Some.n c.in-Some.record.now _ _ (number.0 ∙ c.loop-record.invariant.3) chunk.1.0 (chunk.1.1 ∙ size) c.in_ok-put_turn.ensures.words in
    rw count (
      (omega (arith, chunk.0, size), tt),
      tt,
      chunk.0 ∙ size,
      number.1,
      omega (arith, c.loop-record.invariant.3, c.loop-record.invariant.4, number.0, chunk.1.1, size, ap length chunk.1.0, length-append c.in-Some.record.now rest),
      appended_more c.args.out.now _ _ _ _ more c.loop-record.out c.put_turn.new.out c.loop-record.invariant.5 tt c.in_ok-put_turn.ensures.text,
    )

pub returns-in_err-put_turn : goal.returns-in_err-put_turn
returns-in_err-put_turn g c =
    let (chunk, number) = c.in-Some.ensures.steps in
    let more = lines_behind_more (g.M.Machine.meaning c.args.machine.now) c.args.allowance (length c.loop-record.yielded) c.loop-record.words _ c.in-Some.n c.in-Some.record.now _ _ (number.0 ∙ c.loop-record.invariant.3) chunk.1.0 (chunk.1.1 ∙ c.loop-record.invariant.2) c.in_err-put_turn.ensures.words in
    appended_short c.args.out.now _ _ _ _ more c.loop-record.out _ c.loop-record.invariant.5 _ _ c.from_residual.ensures.0 c.in_err-put_turn.ensures.text
