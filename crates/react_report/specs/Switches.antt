-- What a call that loads the text of a switch sheet tells of it. Assumes nothing.
use Rattle.std.specs.Prelude.{◌≡◌, List, Ok, Err, Result}
use Rattle.fault.specs.declared.Fault.{Fault}
use Rattle.switch.specs.declared.line.SwitchLine.{SwitchLine}
use Rattle.switch.specs.Reading.{padded}

-- the machine holds the lines that were read, and blanks behind them, or the refusal is the reader's
abbrev pub LoadsAs : {M : Type 0} → (M → List SwitchLine) → Result M Fault → Result (List SwitchLine) Fault → Type 0
LoadsAs lines (Ok m) read = (ls : List SwitchLine) × (read ≡ Ok ls) × (lines m ≡ padded 64 (Ok ls))
LoadsAs lines (Err f) read = read ≡ Err f
