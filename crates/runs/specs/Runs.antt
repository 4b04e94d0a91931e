-- Runs of a machine over a list of tickets, each by which of them it is fed. Assumes nothing.
use Rattle.std.specs.Prelude.{ℕ, Bool, true, false, cond, not, ◌&&◌, ◌||◌, List, [], replicate}
use mathlib.Core.List.{foldl}
use Rattle.ticket.specs.declared.Ticket.{Ticket}
use Rattle.machine.specs.Meaning.{Outcome}
use Rattle.runs.specs.Setting.{Setting, visible}

-- a run between two tickets: its words, and whether it has stalled
pub record Run : Type 0 where
  pub words : List ℕ
  pub stalled : Bool

-- a run begins with words 0
abbrev pub fresh : Run
fresh = record { words = replicate 16 0; stalled = false }

-- not fed, a run makes none and keeps its words
abbrev pub idle : List ℕ → Outcome
idle words = record { made = []; steps = 0; stalled = false; words = words }

-- fed a ticket, a run does what the meaning gives; it makes nothing after it has stalled
abbrev pub reaction : Setting → Bool → Run → Ticket → Outcome
reaction w fed r t = cond (fed && not r.stalled) (w.means r.words t) (idle r.words)

abbrev pub after : Run → Outcome → Run
after r o = record { words = o.words; stalled = r.stalled || o.stalled }

-- the run over a list that is fed the tickets which pass a test
abbrev pub run : Setting → (Ticket → Bool) → List Ticket → Run
run w feeds = foldl (λ (r : Run) (t : Ticket). after r (reaction w (feeds t) r t)) fresh

-- what that run makes of a ticket behind a list
abbrev pub outcome : Setting → (Ticket → Bool) → List Ticket → Ticket → Outcome
outcome w feeds before t = reaction w (feeds t) (run w feeds before) t

abbrev pub every : Ticket → Bool
every t = true

-- the bare run is fed every ticket
abbrev pub bare : Setting → List Ticket → Ticket → Outcome
bare w = outcome w every

-- the shadow run of level m is fed those whose channel m sees
abbrev pub shadow : Setting → ℕ → List Ticket → Ticket → Outcome
shadow w m = outcome w (visible w m)
