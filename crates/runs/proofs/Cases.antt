-- Three small machines that tell a hidden value apart, and what a monitor answers to each, worked out. Assumes nothing.
use Rattle.std.proofs.Common.{◌≡◌, ℕ, true, false, cond, eqb, List, [], ◌∷◌, ◌++◌, map, get_or, set, replicate, refl}
use Rattle.fault.specs.declared.Reason.TheVariants as reason
use Rattle.fault.specs.Faults.{unplaced}
use Rattle.ticket.specs.declared.Ticket.{Ticket}
use Rattle.machine.specs.Meaning.{Outcome, Meaning}
use Rattle.levels.specs.Chain.{chain}
use Rattle.runs.specs.Setting.{Setting, setting_of}
use Rattle.runs.specs.Calls.{Call, hand_in, ask_state}
use Rattle.runs.specs.Clashes.{missing, extra}
use Rattle.runs.specs.Verdicts.{Alarm, ok, alarm, stall, of_bare}
use Rattle.runs.specs.States.{alarmed, stalled}
use Rattle.runs.specs.Replies.{Answer, brought, refused, told, blank, Reply, reply, replies}

abbrev ticket : ℕ → Ticket
ticket value = record { channel = 16; value = value }

abbrev ended : List Ticket → List ℕ → Outcome
ended made words = record { made = made; steps = 2; stalled = false; words = words }

-- a ticket on channel 0 sets word 2; one on another makes the ticket 1 if word 2 is 0, and else what is given
abbrev machine : (List ℕ → Outcome) → Meaning
machine otherwise words t allowance =
    cond (eqb t.channel 0) (ended [] (set words 2 t.value)) (cond (eqb (get_or words 2 0) 0) (ended (ticket 1 ∷ []) words) (otherwise words))

-- two levels; channel 0 is at level 1, and all else at level 0
abbrev watched : (List ℕ → Outcome) → Setting
watched otherwise = setting_of (machine otherwise) (chain 2) (record { channels = set (replicate 32 0) 0 1; variables = replicate 16 0 }) 1000

abbrev hidden : Call
hidden = hand_in (0 ∷ 73 ∷ 0 ∷ 0 ∷ 0 ∷ 1 ∷ 0 ∷ 0 ∷ []) (replicate 17 (ticket 9))

abbrev asking : Call
asking = hand_in (1 ∷ 73 ∷ 0 ∷ 0 ∷ 0 ∷ 0 ∷ 0 ∷ 0 ∷ []) (replicate 17 (ticket 9))

abbrev wrong_channel : Call
wrong_channel = hand_in (16 ∷ 73 ∷ 0 ∷ 0 ∷ 0 ∷ 0 ∷ 0 ∷ 0 ∷ []) (replicate 16 blank)

abbrev answers : Setting → List Call → List Answer
answers w calls = map (λ (r : Reply). r.answer) (replies w calls)

abbrev none_there : Alarm
none_there = record { kind = missing; level = 0; place = 0 }

-- the ticket that level 0 waits for is missing; then there are only refusals, in the order of their tests
silent : answers (watched (ended [])) (hidden ∷ asking ∷ ask_state ∷ asking ∷ wrong_channel ∷ hand_in [] (replicate 16 blank) ∷ hand_in [] [] ∷ [])
    ≡ brought ok ∷ brought (alarm none_there) ∷ told (alarmed none_there)
    ∷ refused (unplaced reason.Halted) ∷ refused (unplaced reason.Channel) ∷ refused (unplaced reason.Record) ∷ refused (unplaced reason.Slip) ∷ []
silent = refl

-- a second ticket is one too many: the first is released, and the slip is zero up to its sixteenth place
talkative : reply (watched (ended (ticket 1 ∷ ticket 1 ∷ []))) (hidden ∷ []) asking
    ≡ record {
      answer = brought (alarm (record { kind = extra; level = 0; place = 1 }));
      released = ticket 1 ∷ [];
      slip = ticket 1 ∷ (replicate 15 blank ++ (ticket 9 ∷ []));
    }
talkative = refl

-- the bare run stalls, with none of its shadow's tickets
endless : answers (watched (λ words. record { made = []; steps = 1000; stalled = true; words = words })) (hidden ∷ asking ∷ ask_state ∷ [])
    ≡ brought ok ∷ brought (stall of_bare) ∷ told (stalled of_bare) ∷ []
endless = refl
