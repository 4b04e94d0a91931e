-- What a filter reads, makes of it and writes. Assumes nothing.
use Rattle.std.specs.Prelude.{◌≡◌, ℕ, List, [], Ok, Option, Result, vec_items, Vec}
use Rattle.std.specs.Borrow.{Bor, MutBor}
use Rattle.std.specs.Io.KnownBytes.{Appends, Consumes, IsAtEnd}
use Rattle.std.specs.declared.alloc.AllocError.{AllocError}
use Rattle.std.specs.declared.alloc.Global.{Global}

-- what a call that appends to bytes may answer and leave
abbrev pub Appender : Type 1
Appender = MutBor (Vec ℕ Global) → Bor (List ℕ) → Result (Unit {0}) AllocError → MutBor (Vec ℕ Global) → Type 0

-- called with nothing written so far, it makes the output of the input
pub record Makes (report : Appender) (input output : List ℕ) : Type 0 where
  pub lent : MutBor (Vec ℕ Global)
  pub nothing_is_written : vec_items lent.now ≡ []
  pub shown : Bor (List ℕ)
  pub input_is_shown : shown.now ≡ input
  pub left : MutBor (Vec ℕ Global)
  pub call : report lent shown (Ok tt) left
  pub output_is_left : vec_items left.now ≡ output

-- all of the input is read, and what the report makes of it is written
pub record Filters (report : Appender) (unread unread' written written' : Option (List ℕ)) : Type 0 where
  pub input : List ℕ
  pub output : List ℕ
  pub input_is_read : Consumes unread unread' input
  pub nothing_is_left : IsAtEnd unread'
  pub output_is_made : Makes report input output
  pub output_is_written : Appends written written' output
