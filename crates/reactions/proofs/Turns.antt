-- The lines of one reaction, and of the records of a batch. Assumes nothing.
use Rattle.std.proofs.Common.{◌≡◌, ℕ, suc, ◌+◌, ◌/◌, List, ◌++◌, length, take, sym, refl, ap, ◌∙◌, arith, length-append}
use Rattle.std.proofs.lemmas.List.{take_at, drop_at}
use Rattle.std.specs.List.{flat_map}
use Rattle.machine.specs.declared.Reaction.{Reaction}
use Rattle.machine.specs.Meaning.{Outcome, Meaning}
use Rattle.machine.specs.Reacting.{Reacts}
use Rattle.ticket.specs.declared.Ticket.{Ticket}
use Rattle.ticket.specs.Tickets.{decoded_in}
use Rattle.reactions.specs.Reactions.{made_line, end_line, outcome_lines, turn_lines, turn_words, lines_behind}

module _ (o : Outcome) (slip : List Ticket) (r : Reaction) (words' : List ℕ) (slip' : List Ticket) (reacts : Reacts o slip r words' slip') where
  made_is : take r.made slip' ≡ o.made
  made_is = ap (λ k. take k slip') reacts.made ∙ ap (take (length o.made)) reacts.slip_holds ∙ take_at o.made _ (length o.made) refl

  pub lines_are : (n : ℕ) → outcome_lines n o ≡ flat_map (made_line n) (take r.made slip') ++ end_line n r.stalled r.steps
  lines_are n =
      let lines = flat_map (made_line n) in
      ap (λ ts. lines ts ++ end_line n o.stalled o.steps) (sym made_is)
      ∙ ap (λ b. lines (take r.made slip') ++ end_line n b o.steps) (sym reacts.stalled)
      ∙ ap (λ k. lines (take r.made slip') ++ end_line n r.stalled k) (sym reacts.steps)

-- one record more, which is the m-th and leaves words'
pub lines_behind_more : (means : Meaning) (allowance n : ℕ) (words bytes : List ℕ) (m : ℕ) (first rest words' : List ℕ)
    → m ≡ n + 1 → bytes ≡ first ++ rest → length first ≡ 8 → words' ≡ turn_words means allowance words (decoded_in first)
    → lines_behind means allowance n words bytes ≡ turn_lines means allowance m words (decoded_in first) ++ lines_behind means allowance m words' rest
lines_behind_more means allowance n words bytes m first rest words' next e long left =
    let count : length (first ++ rest) / 8 ≡ suc (length rest / 8) = omega (arith, length-append first rest) in
    rw (next, left, e, count, take_at first rest 8 long, drop_at first rest 8 long)
