-- What follows of a call that appended the records of a text, or stopped. Assumes nothing.
use Rattle.std.proofs.Common.{◌≡◌, ℕ, ◌+◌, ◌*◌, ◌≤◌, List, take, Ok, Err, true, vec_items, vec_len, vec_capacity, Result, Vec, sym, ap, ◌∙◌, arith}
use Rattle.std.proofs.lemmas.List.{take_at}
use Rattle.std.specs.Result.{is_err}
use Rattle.std.specs.declared.alloc.Global.{Global}
use Rattle.fault.proofs.Then.{ok_not_err}
use Rattle.parts.specs.Parts.{feeds}
use Rattle.day_reader.specs.declared.error.DayError.{DayError}
use Rattle.day_reader.specs.declared.error.DayError.TheVariants.{Refused, NoMemory}
use Rattle.day_reader.specs.Reading.{reading}
use Rattle.day_reader.specs.Appending.{answer, LacksRoom, Appended, Reads, Accepts}
use Rattle.day_reader.proofs.Days.{reading_is_written, written_is_reading, feeds_written}
use Rattle.day_reader.proofs.Records.{length_records}

module _ (t : List ℕ) (old : Vec ℕ Global) where
  -- what stood before is as it was once the list is as long again
  pub truncated : (r : Result (Unit {0}) DayError) (mid new : Vec ℕ Global) → is_err r ≡ true → Appended t old r mid → vec_items new ≡ take (vec_len old) (vec_items mid) → Reads t old r new
  truncated (Ok u) mid new failed h cut = absurd cc
  truncated (Err e) mid new failed (stops, more) cut =
      (stops, cut ∙ ap (take (vec_len old)) more.1 ∙ take_at (vec_items old) more.0 (vec_len old) (omega (arith, old.ok.0)))

  -- room for a record to each line feed is room enough
  room_suffices : vec_len old + 8 * feeds t ≤ vec_capacity old → LacksRoom t old → ⊥
  room_suffices room s =
      let count = ap feeds s.begins ∙ feeds_written s.front s.rest s.fit in
      let long = length_records s.front in
      let lacks = s.lacks in
      omega arith

  pub answer_where_room : (r : Result (Unit {0}) DayError) (new : Vec ℕ Global) → Reads t old r new → vec_len old + 8 * feeds t ≤ vec_capacity old → r ≡ answer (reading t)
  answer_where_room (Ok u) new s room = sym (ap answer s.read)
  answer_where_room (Err (Refused f)) new s room = sym (ap answer s.0)
  answer_where_room (Err NoMemory) new s room = absurd (room_suffices room s.0)

  pub reads_accepts : (r : Result (Unit {0}) DayError) (new : Vec ℕ Global) → Reads t old r new → Accepts t old r new
  reads_accepts (Ok u) new s = let d = reading_is_written t s.hand_ins s.read in (s.hand_ins, d.1, d.0, s.items)
  reads_accepts (Err (Refused f)) new s = λ hs day w. ok_not_err hs f (sym (written_is_reading t hs (w, day)) ∙ s.0)
  reads_accepts (Err NoMemory) new s = tt
