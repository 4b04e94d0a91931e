-- A state tells what was answered. Assumes nothing.
use Rattle.std.proofs.Common.{◌≡◌, Bool, true, false, cond, List, [], ◌∷◌, ◌++◌, Ok, Err, Result, sym, refl, ap, ◌∙◌, append_assoc, append-nil}
use mathlib.Core.List.{foldl, foldl-append}
use Rattle.std.proofs.lemmas.Bool.{both_ways}
use Rattle.fault.specs.declared.Fault.{Fault}
use Rattle.fault.specs.declared.Reason.TheVariants as reason
use Rattle.fault.specs.Faults.{unplaced}
use Rattle.ticket.specs.declared.Ticket.{Ticket}
use Rattle.runs.specs.Setting.{Setting}
use Rattle.runs.specs.Calls.{Call, hand_in, ask_state, ticket_in, accepted, proper_ticket, proper_tickets}
use Rattle.runs.specs.Verdicts.{Verdict, verdict}
use Rattle.runs.specs.States.{State, closed, running, alarmed, stalled, goes_on, state_after, is_running}
use Rattle.runs.specs.Replies.{told, Reply, taking, refusal, reply_to, reply, replies}
use Rattle.runs.specs.Laws.{verdict_in, verdicts_in, AStateTellsWhatWasAnswered}
use Rattle.runs.proofs.Lists.{along_last, by_the_last}
use Rattle.runs.proofs.Replies.{proper_append}
use Rattle.runs.proofs.Verdicts.{state_after_last}

-- what no longer runs stays as it is
stays : (s : State) (v : Verdict) → is_running s ≡ false → goes_on s v ≡ s
stays closed v e = refl
stays running v e = absurd (both_ways true e refl)
stays (alarmed a) v e = refl
stays (stalled s) v e = refl

verdicts_append : (rs : List Reply) (r : Reply) → verdicts_in (rs ++ (r ∷ [])) ≡ verdicts_in rs ++ verdict_in r.answer
verdicts_append [] r = append-nil (verdict_in r.answer)
verdicts_append (q ∷ rs) r =
    ap (λ l. verdict_in q.answer ++ l) (verdicts_append rs r) ∙ sym (append_assoc (verdict_in q.answer) (verdicts_in rs) (verdict_in r.answer))

module _ (w : Setting) where
  taken_moves : (b : Bool) (h : List Ticket) (t : Ticket) (slip : List Ticket) → is_running (state_after w h) ≡ b
      → goes_on (state_after w h) (verdict w h t)
      ≡ foldl goes_on (state_after w h) (verdict_in (cond b (taking w h t slip) (refusal (unplaced reason.Halted) slip)).answer)
  taken_moves true h t slip e = refl
  taken_moves false h t slip e = stays (state_after w h) (verdict w h t) e

  reply_moves : (h slip : List Ticket) (r : Result Ticket Fault)
      → state_after w (h ++ accepted r) ≡ foldl goes_on (state_after w h) (verdict_in (reply_to w h slip r).answer)
  reply_moves h slip (Ok t) = state_after_last w h t ∙ taken_moves (is_running (state_after w h)) h t slip refl
  reply_moves h slip (Err f) = ap (state_after w) (append-nil h)

  -- the state moves by what a call was answered
  pub call_moves : (before : List Call) (c : Call)
      → state_after w (proper_tickets before ++ proper_ticket c) ≡ foldl goes_on (state_after w (proper_tickets before)) (verdict_in (reply w before c).answer)
  call_moves before (hand_in bytes slip) = reply_moves (proper_tickets before) slip (ticket_in bytes slip)
  call_moves before ask_state = ap (state_after w) (append-nil (proper_tickets before))

  state_is : (calls : List Call) → state_after w (proper_tickets calls) ≡ foldl goes_on running (verdicts_in (replies w calls))
  state_is =
      by_the_last (λ calls. state_after w (proper_tickets calls) ≡ foldl goes_on running (verdicts_in (replies w calls))) refl
      (λ before c e.
      ap (state_after w) (proper_append before (c ∷ []) ∙ ap (λ l. proper_tickets before ++ l) (append-nil (proper_ticket c)))
      ∙ call_moves before c
      ∙ ap (λ s. foldl goes_on s (verdict_in (reply w before c).answer)) e
      ∙ sym (foldl-append goes_on running (verdicts_in (replies w before)) (verdict_in (reply w before c).answer))
      ∙ ap (foldl goes_on running) (sym (verdicts_append (replies w before) (reply w before c)) ∙ ap verdicts_in (sym (along_last (reply w) before c))))

  pub a_state_tells_what_was_answered : AStateTellsWhatWasAnswered w
  a_state_tells_what_was_answered calls = ap told (state_is calls)
