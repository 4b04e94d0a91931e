-- What the reader's answer says of what was read. Assumes nothing.
use Rattle.std.proofs.Common.{◌≡◌, ℕ, List, length, Ok, Err, Result, refl, ap, ◌∙◌}
use Rattle.fault.specs.declared.Fault.{Fault}
use Rattle.fault.proofs.Then.{ok_not_err}
use Rattle.switch.specs.declared.line.SwitchLine.{SwitchLine}
use Rattle.switch.specs.Reading.{reading, counted, answer, lines_after, padded}

accepted : (r : Result (List SwitchLine) Fault) (n : ℕ) → Ok n ≡ counted r → (ls : List SwitchLine) × (r ≡ Ok ls)
accepted (Ok ls) n e = (ls, refl)
accepted (Err f) n e = absurd (ok_not_err n f e)

-- 64 lines are lent
pub lines_read : (text : List ℕ) (before after : List SwitchLine) (n : ℕ) → length before ≡ 64 → Ok n ≡ answer (length before) text → after ≡ lines_after text before
    → (ls : List SwitchLine) × (reading text ≡ Ok ls) × (after ≡ padded 64 (Ok ls))
lines_read text before after n lent answered left =
    let read = accepted (reading text) n (rw lent at answered) in
    (read.0, read.1, rw lent at left ∙ ap (padded 64) read.1)
