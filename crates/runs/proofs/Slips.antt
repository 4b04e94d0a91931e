-- Sixteen tickets are enough for what is released. Assumes nothing.
use Rattle.std.proofs.Common.{◌≡◌, ℕ, ◌-◌, ◌≤◌, Bool, true, false, cond, not, ltb, List, ◌++◌, length, drop, replicate, Ok, Err, Result, refl, arith, length-append, length-drop}
use lib.ListN.{length-replicate}
use Rattle.std.proofs.lemmas.Bool.{ltb-false}
use Rattle.fault.specs.declared.Fault.{Fault}
use Rattle.fault.specs.declared.Reason.TheVariants as reason
use Rattle.fault.specs.Faults.{unplaced}
use Rattle.ticket.specs.declared.Ticket.{Ticket}
use Rattle.ticket.specs.Tickets.{decoded_in}
use Rattle.machine.specs.Meaning.{Meaning, Lawful}
use Rattle.levels.specs.Scheme.{Levels}
use Rattle.sheet.specs.declared.LevelSheet.{LevelSheet}
use Rattle.runs.specs.Setting.{Setting, setting_of}
use Rattle.runs.specs.Calls.{Call, hand_in, ask_state, ticket_in, proper_tickets}
use Rattle.runs.specs.Runs.{Run, idle, run, every, bare}
use Rattle.runs.specs.Clashes.{matched}
use Rattle.runs.specs.States.{state_after, is_running}
use Rattle.runs.specs.Replies.{blank, filled, refusal, taking, reply_to, reply}
use Rattle.runs.specs.Laws.{MakesFew, ASlipIsEnough}
use Rattle.runs.proofs.Releases.{beginning_is_short, matched_is_longest}

pub lawful_makes_few : (meaning : Meaning) (L : Levels) (sheet : LevelSheet) (allowance : ℕ) → Lawful meaning → MakesFew (setting_of meaning L sheet allowance)
lawful_makes_few meaning L sheet allowance law words t = law.few words t allowance

-- a slip that has room for sixteen tickets keeps its length
filled_length : (released slip : List Ticket) → length released ≤ 16 → 16 ≤ length slip → length (filled released slip) ≡ length slip
filled_length released slip few room =
    omega (
      arith,
      length-append released (replicate (16 - length released) blank ++ drop 16 slip),
      length-append (replicate (16 - length released) blank) (drop 16 slip),
      length-replicate (16 - length released) blank,
      length-drop 16 slip,
    )

module _ (w : Setting) (few : MakesFew w) where
  reaction_few : (go : Bool) (r : Run) (t : Ticket) → length (cond go (w.means r.words t) (idle r.words)).made ≤ 16
  reaction_few true r t = few r.words t
  reaction_few false r t = omega arith

  matched_few : (h : List Ticket) (t : Ticket) → length (matched w h t) ≤ 16
  matched_few h t =
      let short = beginning_is_short (matched w h t) (bare w h t).made (matched_is_longest w h t).beginning in
      let made = reaction_few (not (run w every h).stalled) (run w every h) t in
      omega arith

  few_if : (b : Bool) (h : List Ticket) (t : Ticket) (slip : List Ticket)
      → length (cond b (taking w h t slip) (refusal (unplaced reason.Halted) slip)).released ≤ 16
  few_if true h t slip = matched_few h t
  few_if false h t slip = omega arith

  few_to : (h slip : List Ticket) (r : Result Ticket Fault) → length (reply_to w h slip r).released ≤ 16
  few_to h slip (Ok t) = few_if (is_running (state_after w h)) h t slip
  few_to h slip (Err f) = omega arith

  few_released : (before : List Call) (c : Call) → length (reply w before c).released ≤ 16
  few_released before (hand_in bytes slip) = few_to (proper_tickets before) slip (ticket_in bytes slip)
  few_released before ask_state = omega arith

  slip_if : (b : Bool) (h : List Ticket) (t : Ticket) (slip : List Ticket) → 16 ≤ length slip
      → length (cond b (taking w h t slip) (refusal (unplaced reason.Halted) slip)).slip ≡ length slip
  slip_if true h t slip room = filled_length (matched w h t) slip (matched_few h t) room
  slip_if false h t slip room = refl

  slip_to : (h slip : List Ticket) (r : Result Ticket Fault) → 16 ≤ length slip → length (reply_to w h slip r).slip ≡ length slip
  slip_to h slip (Ok t) room = slip_if (is_running (state_after w h)) h t slip room
  slip_to h slip (Err f) room = refl

  slip_tested : (b : Bool) (h slip : List Ticket) (r : Result Ticket Fault) → ltb (length slip) 16 ≡ b
      → length (reply_to w h slip (cond b (Err (unplaced reason.Slip)) r)).slip ≡ length slip
  slip_tested true h slip r e = refl
  slip_tested false h slip r e = slip_to h slip r (ltb-false (length slip) 16 e)

pub a_slip_is_enough : (w : Setting) → ASlipIsEnough w
a_slip_is_enough w =
    record {
      few = λ few before c. few_released w few before c;
      slip_length = λ few before bytes slip. slip_tested w few (ltb (length slip) 16) (proper_tickets before) slip (decoded_in bytes) refl;
    }
