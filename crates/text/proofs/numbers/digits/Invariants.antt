use Rattle.std.proofs.Common.{◌≡◌, ◌≤◌, drop}
use Rattle.text.specs.Numbers.{digits_in}
use Rattle.text.proofs.numbers.digits.Given as goal

abbrev pub invariant-loop-byte : goal.invariant-loop-byte
invariant-loop-byte l = (l.n ≤ l.high) × (digits_in l.high 0 l.bytes ≡ digits_in l.high l.n (drop l.byte-index l.bytes))
