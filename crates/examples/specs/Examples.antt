-- Worked examples: what the definitions give on values written out. Assumes nothing.
use Rattle.std.specs.Prelude.{◌≡◌, false, [], ◌∷◌, Some, Ok, Err}
use Rattle.fault.specs.declared.Reason.TheVariants as reason
use Rattle.fault.specs.Faults.{number_of, unplaced}
use Rattle.language.specs.declared.Operator.TheVariants.{Minus, Round}
use Rattle.language.specs.Expression.{constant, binary, value}
use Rattle.language.specs.Operators.{applied}
use Rattle.levels.specs.Scheme.{join_of}
use Rattle.levels.specs.Chain.{chain}
use Rattle.levels.specs.Parties.{parties}
use Rattle.levels.specs.Pair.{pair, is_pair}
use Rattle.ticket.specs.Tickets.{decoded}

pub record Examples : Type 0 where
  pub a_ticket_of_300 : decoded (0 ∷ 73 ∷ 0 ∷ 0 ∷ 1 ∷ 44 ∷ 0 ∷ 0 ∷ []) ≡ Ok (record { channel = 0; value = 300 })
  pub byte_7_has_to_be_zero : decoded (0 ∷ 73 ∷ 0 ∷ 0 ∷ 1 ∷ 44 ∷ 0 ∷ 1 ∷ []) ≡ Err (unplaced reason.Record)
  pub an_in_ticket_has_no_channel_16 : decoded (16 ∷ 73 ∷ 0 ∷ 0 ∷ 1 ∷ 44 ∷ 0 ∷ 0 ∷ []) ≡ Err (unplaced reason.Channel)
  pub those_refusals_are_11_and_12 : (number_of reason.Record ≡ 11) × (number_of reason.Channel ≡ 12)
  pub two_parties_join_1_and_2_to_3 : join_of (parties 2) 1 2 ≡ Some 3
  pub with_two_parties_1_is_not_below_2 : (parties 2).below 1 2 ≡ false
  pub a_pair_of_chains_4_and_4_has_16_levels : (pair (chain 4) (chain 4)).count ≡ 16
  pub a_pair_of_chains_4_and_5_is_refused : is_pair (chain 4) (chain 5) ≡ false
  pub that_refusal_is_9 : number_of reason.Level ≡ 9
  pub fifteen_by_ten_rounds_to_20 : applied Round 15 10 ≡ 20
  pub fourteen_by_ten_rounds_to_10 : applied Round 14 10 ≡ 10
  pub seven_by_zero_stays_7 : applied Round 7 0 ≡ 7
  pub the_largest_value_by_ten_rounds_down : applied Round 4294967295 10 ≡ 4294967290
  pub three_minus_five_is_modulo_2_to_the_32 : value 0 [] (binary Minus (constant 3) (constant 5)) ≡ 4294967294
