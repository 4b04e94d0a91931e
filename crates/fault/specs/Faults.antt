-- The number of each refusal, and a refusal that has no place in a text. Assumes nothing.
use Rattle.std.specs.Prelude.{◌≡◌, ℕ, Bool, true, false, Ok, Err, Result}
use Rattle.fault.specs.declared.Fault.{Fault}
use Rattle.fault.specs.declared.Reason.{Reason}
use Rattle.fault.specs.declared.Reason.TheVariants as reason

abbrev pub number_of : Reason → ℕ
number_of reason.Overlong = 1
number_of reason.Ragged = 2
number_of reason.Letter = 3
number_of reason.Field = 4
number_of reason.Nest = 5
number_of reason.Twice = 6
number_of reason.Full = 7
number_of reason.Slip = 8
number_of reason.Level = 9
number_of reason.Leak = 10
number_of reason.Record = 11
number_of reason.Channel = 12
number_of reason.Halted = 13
number_of reason.Allowance = 14

-- outside a text, line and field are 0
abbrev pub unplaced : Reason → Fault
unplaced reason = record { reason = reason; line = 0; field = 0 }

-- the answer is a value that is as wanted where the test passes, and else the one refusal
abbrev pub Accepts : {X : Type 0} → Bool → (X → Type 0) → Reason → Result X Fault → Type 0
Accepts test Wanted reason (Ok x) = (test ≡ true) × Wanted x
Accepts test Wanted reason (Err f) = (test ≡ false) × (f ≡ unplaced reason)

-- a value handed on, or the refusal kept
abbrev pub then : {X Y : Type 0} → Result X Fault → (X → Result Y Fault) → Result Y Fault
then (Ok x) next = next x
then (Err f) next = Err f
