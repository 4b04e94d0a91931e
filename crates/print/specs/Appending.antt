-- What it is to append bytes to a growing list of them. Assumes nothing.
use Rattle.std.specs.Prelude.{◌≡◌, ℕ, ◌+◌, ◌<◌, ◌≤◌, List, ◌++◌, length, Ok, Err, vec_items, vec_len, vec_capacity, Result, Vec}
use Rattle.std.specs.declared.alloc.AllocError.{AllocError}
use Rattle.std.specs.declared.alloc.Global.{Global}

-- the bytes stand at the end; a refusal says that there was not the room for them, and leaves what stood before
abbrev pub Appends : Vec ℕ Global → List ℕ → Result (Unit {0}) AllocError → Vec ℕ Global → Type 0
Appends old bytes (Ok _) new = (vec_items new ≡ vec_items old ++ bytes) × (vec_capacity old ≤ vec_capacity new)
Appends old bytes (Err _) new = (vec_capacity old < vec_len old + length bytes) × ((more : List ℕ) × (vec_items new ≡ vec_items old ++ more))

-- mid is what old becomes by all of the bytes but the rest
abbrev pub Appended : Vec ℕ Global → List ℕ → List ℕ → Vec ℕ Global → Type 0
Appended old bytes rest mid =
    (front : List ℕ) × (vec_items mid ≡ vec_items old ++ front) × (front ++ rest ≡ bytes) × (vec_capacity old ≤ vec_capacity mid)
