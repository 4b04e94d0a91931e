-- Putting lines into a switch machine. Assumes nothing.
use Rattle.std.specs.Prelude.{◌≡◌, ℕ, ◌≤◌, cond, List, length, Ok, Err, Result, nat_le}
use Rattle.fault.specs.declared.Fault.{Fault}
use Rattle.fault.specs.declared.Reason.TheVariants as reason
use Rattle.fault.specs.Faults.{unplaced}
use Rattle.switch.specs.declared.line.SwitchLine.{SwitchLine}
use Rattle.switch.specs.Reading.{sheet_limit, reading, padded}
use Rattle.switch_machine.specs.declared.Switch.{Switch}
use Rattle.switch_machine.specs.Sound.{is_left}

abbrev pub loading : List SwitchLine → Result (Unit {0}) Fault
loading lines = cond (nat_le sheet_limit (length lines)) (cond (is_left lines) (Ok tt) (Err (unplaced reason.Nest))) (Err (unplaced reason.Slip))

-- the machine holds the lines, or is as before
abbrev pub Holds : Result (Unit {0}) Fault → List SwitchLine → Switch → Switch → Type 0
Holds (Ok _) lines old new = new.lines.now ≡ lines
Holds (Err _) lines old new = new ≡ old

-- the text is read, and leaves these lines where so many are lent
abbrev pub Leaves : List ℕ → List SwitchLine → Type 0
Leaves text lines = (ls : List SwitchLine) × (reading text ≡ Ok ls) × (lines ≡ padded (length lines) (Ok ls))

-- lines are put in exactly if some text leaves them
abbrev pub LeftByText : Result (Unit {0}) Fault → List SwitchLine → Type 0
LeftByText (Ok _) lines = (text : List ℕ) × Leaves text lines
LeftByText (Err _) lines = sheet_limit ≤ length lines → (text : List ℕ) → Leaves text lines → ⊥
