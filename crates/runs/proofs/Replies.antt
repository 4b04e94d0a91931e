-- What a call gives back, by the proper ticket that it hands in. Assumes nothing.
use Rattle.std.proofs.Common.{◌≡◌, ℕ, Bool, true, false, cond, List, [], ◌∷◌, ◌++◌, Ok, Err, Result, sym, refl, ap, ◌∙◌, append_assoc, arith}
use Rattle.fault.specs.declared.Fault.{Fault}
use Rattle.fault.specs.declared.Reason.TheVariants as reason
use Rattle.fault.specs.Faults.{unplaced}
use Rattle.ticket.specs.declared.Ticket.{Ticket}
use Rattle.runs.specs.Setting.{Setting}
use Rattle.runs.specs.Calls.{Call, hand_in, ask_state, ticket_in, accepted, proper_ticket, proper_tickets, HandsIn}
use Rattle.runs.specs.Clashes.{matched}
use Rattle.runs.specs.Verdicts.{Verdict, verdict}
use Rattle.runs.specs.States.{state_after, is_running}
use Rattle.runs.specs.Replies.{brought, Reply, refusal, taking, reply_to, reply}
use Rattle.runs.proofs.Verdicts.{RunsOn}

pub proper_append : (cs ds : List Call) → proper_tickets (cs ++ ds) ≡ proper_tickets cs ++ proper_tickets ds
proper_append [] ds = refl
proper_append (c ∷ cs) ds =
    ap (λ l. proper_ticket c ++ l) (proper_append cs ds) ∙ sym (append_assoc (proper_ticket c) (proper_tickets cs) (proper_tickets ds))

accepted_is_ok : (r : Result Ticket Fault) (t : Ticket) → accepted r ≡ t ∷ [] → r ≡ Ok t
accepted_is_ok (Ok u) t e = cc
accepted_is_ok (Err f) t e = let z : ◌≡◌ {A = ℕ} 0 1 = cc in absurd (omega arith)

module _ (w : Setting) where
  -- a hand-in of a proper ticket is taken or refused by 13
  pub reply_to_proper : (before : List Call) (c : Call) (t : Ticket) → HandsIn c t
      → (slip : List Ticket) × (reply w before c ≡ reply_to w (proper_tickets before) slip (Ok t))
  reply_to_proper before (hand_in bytes slip) t e = (slip, ap (reply_to w (proper_tickets before) slip) (accepted_is_ok (ticket_in bytes slip) t e))
  reply_to_proper before ask_state t e = let z : ◌≡◌ {A = ℕ} 0 1 = cc in absurd (omega arith)

  -- the monitor runs, the verdict is the ticket's, and what all match is released
  pub record Taken (h : List Ticket) (t : Ticket) (r : Reply) (v : Verdict) : Type 0 where
    pub ran : RunsOn w h
    pub verdict_is : verdict w h t ≡ v
    pub released_is : r.released ≡ matched w h t

  taken_if : (h : List Ticket) (t : Ticket) (slip : List Ticket) (v : Verdict) (b : Bool) → is_running (state_after w h) ≡ b
      → (cond b (taking w h t slip) (refusal (unplaced reason.Halted) slip)).answer ≡ brought v
      → Taken h t (cond b (taking w h t slip) (refusal (unplaced reason.Halted) slip)) v
  taken_if h t slip v true f e = record { ran = f; verdict_is = cc; released_is = refl }
  taken_if h t slip v false f e = let z : ◌≡◌ {A = ℕ} 0 1 = cc in absurd (omega arith)

  pub taken : (before : List Call) (c : Call) (t : Ticket) (v : Verdict) → HandsIn c t → (reply w before c).answer ≡ brought v
      → Taken (proper_tickets before) t (reply w before c) v
  taken before c t v p e =
      let k = reply_to_proper before c t p in
      rw k.1 (taken_if (proper_tickets before) t k.0 v (is_running (state_after w (proper_tickets before))) refl (sym (ap (λ r. r.answer) k.1) ∙ e))

  -- while a monitor runs a proper ticket is taken
  pub taken_while_running : (before : List Call) (c : Call) (t : Ticket) → HandsIn c t → RunsOn w (proper_tickets before)
      → (reply w before c).answer ≡ brought (verdict w (proper_tickets before) t)
  taken_while_running before c t p e =
      let k = reply_to_proper before c t p in
      ap (λ r. r.answer) k.1
      ∙ ap (λ b. (cond b (taking w (proper_tickets before) t k.0) (refusal (unplaced reason.Halted) k.0)).answer) e

  ran_if : (h slip : List Ticket) (r : Result Ticket Fault) (v : Verdict) → (reply_to w h slip r).answer ≡ brought v → RunsOn w h
  ran_if h slip (Ok t) v e = (taken_if h t slip v (is_running (state_after w h)) refl e).ran
  ran_if h slip (Err f) v e = let z : ◌≡◌ {A = ℕ} 0 1 = cc in absurd (omega arith)

  -- only a running monitor brings a verdict
  pub ran_before : (before : List Call) (c : Call) (v : Verdict) → (reply w before c).answer ≡ brought v → RunsOn w (proper_tickets before)
  ran_before before (hand_in bytes slip) v e = ran_if (proper_tickets before) slip (ticket_in bytes slip) v e
  ran_before before ask_state v e = let z : ◌≡◌ {A = ℕ} 0 1 = cc in absurd (omega arith)

pub brought_by_proper : (w : Setting) (before : List Call) (c : Call) (v : Verdict) → (reply w before c).answer ≡ brought v → (t : Ticket) × HandsIn c t
brought_by_proper w before (hand_in bytes slip) v e = one (ticket_in bytes slip) e
  where
    one : (r : Result Ticket Fault) → (reply_to w (proper_tickets before) slip r).answer ≡ brought v → (t : Ticket) × (accepted r ≡ t ∷ [])
    one (Ok t) e = (t, refl)
    one (Err f) e = let z : ◌≡◌ {A = ℕ} 0 1 = cc in absurd (omega arith)
brought_by_proper w before ask_state v e = let z : ◌≡◌ {A = ℕ} 0 1 = cc in absurd (omega arith)
