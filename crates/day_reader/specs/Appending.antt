-- The records of a day, appended to a growing list of bytes. Assumes nothing.
use Rattle.std.specs.Prelude.{◌≡◌, ℕ, ◌+◌, ◌<◌, ◌≤◌, List, ◌++◌, length, Ok, Err, vec_items, vec_len, vec_capacity, Result, Vec, ◌≢◌}
use Rattle.std.specs.declared.alloc.Global.{Global}
use Rattle.std.specs.List.{AllByRecursion}
use Rattle.fault.specs.declared.Fault.{Fault}
use Rattle.text.specs.Lines.{text_limit}
use Rattle.day_reader.specs.declared.error.DayError.{DayError}
use Rattle.day_reader.specs.declared.error.DayError.TheVariants.{Refused, NoMemory}
use Rattle.day_reader.specs.declared.hand_in.HandIn.{HandIn}
use Rattle.day_reader.specs.HandIns.{Fit, records_of}
use Rattle.day_reader.specs.Reading.{reading}
use Rattle.day_reader.specs.Writing.{written, Day}

-- the answer where memory does not lack
abbrev pub answer : Result (List HandIn) Fault → Result (Unit {0}) DayError
answer (Ok hs) = Ok tt
answer (Err f) = Err (Refused f)

-- the text begins with hand-ins, and the list had no room for their records
pub record LacksRoom (t : List ℕ) (old : Vec ℕ Global) : Type 0 where
  pub front : List HandIn
  pub rest : List ℕ
  pub fit : AllByRecursion Fit front
  pub begins : t ≡ written front ++ rest
  pub short : length t ≤ text_limit
  pub lacks : vec_capacity old < vec_len old + length (records_of front)

-- what stops a reading
abbrev pub Stops : List ℕ → Vec ℕ Global → DayError → Type 0
Stops t old (Refused f) = reading t ≡ Err f
Stops t old NoMemory = LacksRoom t old

-- the records of all hand-ins were appended
pub record AppendsDay (t : List ℕ) (old new : Vec ℕ Global) : Type 0 where
  pub hand_ins : List HandIn
  pub read : reading t ≡ Ok hand_ins
  pub items : vec_items new ≡ vec_items old ++ records_of hand_ins

-- the records of a text were appended, or reading stopped, and what stood before stands in front
abbrev pub Appended : List ℕ → Vec ℕ Global → Result (Unit {0}) DayError → Vec ℕ Global → Type 0
Appended t old (Ok _) new = AppendsDay t old new
Appended t old (Err e) new = Stops t old e × ((more : List ℕ) × (vec_items new ≡ vec_items old ++ more))

-- the same, where what stopped left the list as it was
abbrev pub Reads : List ℕ → Vec ℕ Global → Result (Unit {0}) DayError → Vec ℕ Global → Type 0
Reads t old (Ok _) new = AppendsDay t old new
Reads t old (Err e) new = Stops t old e × (vec_items new ≡ vec_items old)

-- what a call accepts, with no word of how it reads: the text is the writing of a day, of which the records stand at the end; or there is no such day
abbrev pub Accepts : List ℕ → Vec ℕ Global → Result (Unit {0}) DayError → Vec ℕ Global → Type 0
Accepts t old (Ok _) new = (hs : List HandIn) × Day hs × (t ≡ written hs) × (vec_items new ≡ vec_items old ++ records_of hs)
Accepts t old (Err (Refused f)) new = (hs : List HandIn) → Day hs → t ≢ written hs
Accepts t old (Err NoMemory) new = Unit {0}
