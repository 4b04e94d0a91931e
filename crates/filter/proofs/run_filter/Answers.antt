use Rattle.std.proofs.Common.{vec_items, refl}
use Rattle.filter.proofs.Filtering.{filtered}
use Rattle.filter.proofs.run_filter.Goals as goal

pub returns : goal.returns
returns g c =
    let read = c.in_ok-read_to_end.ensures in
    filtered _ _ _ _ _ (vec_items c.read_to_end.new.buf) (vec_items c.report.new.arg2) (rw c.new-input.ensures.items at read.none_lost) read.end (record {
      lent = _;
      nothing_is_written = c.new-output.ensures.items;
      shown = _;
      input_is_shown = c.as_slice.ensures.value;
      left = _;
      call = c.in_ok-report.ensures;
      output_is_left = refl;
    }) _ (rw c.as_slice-2.ensures.value at c.write_all.ensures.bytes)
