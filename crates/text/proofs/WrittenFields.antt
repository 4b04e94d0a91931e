-- What is written of a field holds no comma, and is printable and short. Assumes nothing.
use Rattle.std.proofs.Common.{◌≡◌, ℕ, ◌^◌, ◌<◌, ◌≤◌, true, List, length, decimal, refl, arith}
use Rattle.std.proofs.lemmas.Fmt.{length-decimal-le}
use Rattle.text.specs.Lines.{all_printable}
use Rattle.text.proofs.Cutting.{Free}
use Rattle.text.proofs.Decimals.{decimal_is_digits}
use Rattle.text.proofs.Printing.{digits_are_printable, digits_are_free}

-- of at most k bytes
abbrev pub WrittenWell : ℕ → List ℕ → Type 0
WrittenWell k bs = Free 44 bs × (all_printable bs ≡ true) × (length bs ≤ k)

pub decimal_is_well : (v : ℕ) → v < 2 ^ 32 → WrittenWell 10 (decimal v)
decimal_is_well v h =
    let d = decimal_is_digits v (omega arith) in
    (digits_are_free 44 refl (decimal v) d, digits_are_printable (decimal v) d, length-decimal-le 10 v (omega arith) (omega arith) (omega arith))
