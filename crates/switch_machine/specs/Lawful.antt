-- A switch sheet makes at most one ticket, and that an out-ticket. Assumes nothing.
use Rattle.std.specs.Prelude.{◌≡◌, ℕ, ◌≤◌, true, List, [], ◌∷◌, length, Some, None, Option, nat_le, nat_lt, slice_index}
use Rattle.std.proofs.Common.{arith}
use Rattle.std.proofs.lemmas.Bool.{and_parts, cond_both, leb-true}
use Rattle.std.specs.List.{AllByRecursion}
use Rattle.machine.specs.Meaning.{Out, Lawful}
use Rattle.switch.specs.declared.line.SwitchLine.{SwitchLine}
use Rattle.ticket.specs.declared.Ticket.{Ticket}
use Rattle.switch_machine.specs.Sound.{is_made, is_fit, all_fit}
use Rattle.switch_machine.specs.Switching.{fits, first_fit, made_by, outcome_of, switched}

-- the line, if any, makes one out-ticket at most
abbrev MakesOut : Option SwitchLine → Type 0
MakesOut None = Unit {0}
MakesOut (Some l) = AllByRecursion Out (made_by l.out l.value) × (length (made_by l.out l.value) ≤ 16)

made_out : (out : Option ℕ) (value : ℕ) → is_made out value ≡ true → AllByRecursion Out (made_by out value) × (length (made_by out value) ≤ 16)
made_out None value e = (tt, omega arith)
made_out (Some channel) value e =
    let parts = and_parts (nat_le 16 channel) (nat_le channel 31) e in
    (((leb-true 16 channel parts.0, omega (arith, leb-true channel 31 parts.1)), tt), omega arith)

first_fit_makes : (state : ℕ) (t : Ticket) (lines : List SwitchLine) → all_fit lines ≡ true → MakesOut (first_fit state t lines)
first_fit_makes state t [] e = tt
first_fit_makes state t (l ∷ ls) e =
    let parts = and_parts (is_fit l) (all_fit ls) e in
    let made = (and_parts (nat_le l.low l.high) (is_made l.out l.value) (and_parts (nat_lt l.channel 16) _ parts.0).1).1 in
    cond_both (fits state t l) (Some l) (first_fit state t ls) MakesOut (λ _. made_out l.out l.value made) (λ _. first_fit_makes state t ls parts.1)

few : (words : List ℕ) (o : Option SwitchLine) → MakesOut o → length (outcome_of words o).made ≤ 16
few words None m = omega arith
few words (Some l) m = m.1

outward : (words : List ℕ) (o : Option SwitchLine) → MakesOut o → AllByRecursion Out (outcome_of words o).made
outward words None m = tt
outward words (Some l) m = m.0

pub switched_lawful : (lines : List SwitchLine) → all_fit lines ≡ true → Lawful (switched lines)
switched_lawful lines fit = record {
  few = λ words t allowance. few words (first_fit (slice_index words 0) t lines) (first_fit_makes (slice_index words 0) t lines fit);
  outward = λ words t allowance. outward words (first_fit (slice_index words 0) t lines) (first_fit_makes (slice_index words 0) t lines fit);
}
