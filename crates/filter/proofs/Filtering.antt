-- What is known of a filter where all of its output is written. Assumes nothing.
use Rattle.std.proofs.Common.{ℕ, List, Option, Result}
use Rattle.std.proofs.lemmas.Result.{on_ok_weaker}
use Rattle.std.specs.Prelude.{OnOk}
use Rattle.std.specs.Io.KnownBytes.{Appends, Consumes, IsAtEnd}
use Rattle.filter.specs.Filtering.{Appender, Makes, Filters}

pub filtered : (report : Appender) (unread unread' written written' : Option (List ℕ)) (input output : List ℕ) → Consumes unread unread' input → IsAtEnd unread' → Makes report input output
    → {T E : Type 0} (r : Result T E) → OnOk r (Appends written written' output) → OnOk r (Filters report unread unread' written written')
filtered report unread unread' written written' input output read end made r =
    let all : Appends written written' output → Filters report unread unread' written written' = λ put. record {
      input = input;
      output = output;
      input_is_read = read;
      nothing_is_left = end;
      output_is_made = made;
      output_is_written = put;
    } in
    on_ok_weaker r all
