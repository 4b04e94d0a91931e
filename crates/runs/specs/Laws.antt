-- Laws of runs and replies: what alarms, stalls, releases and slips tell of the runs. Assumes nothing.
use Rattle.std.specs.Prelude.{◌≡◌, ℕ, ◌<◌, ◌≤◌, Bool, true, false, List, [], ◌∷◌, ◌++◌, length, filter, ◌≢◌}
use mathlib.Core.List.{foldl}
use Rattle.ticket.specs.declared.Ticket.{Ticket}
use Rattle.runs.specs.Setting.{Setting, visible, seen}
use Rattle.runs.specs.Calls.{Call, hand_in, ask_state, proper_tickets, HandsIn}
use Rattle.runs.specs.Runs.{run, every, idle, bare, shadow}
use Rattle.runs.specs.Clashes.{Kind, missing, extra, different}
use Rattle.runs.specs.Verdicts.{Alarm, Stall, of_bare, of_shadow, Verdict, alarm, stall}
use Rattle.runs.specs.States.{running, goes_on}
use Rattle.runs.specs.Replies.{Answer, brought, refused, told, Reply, reply, replies}
use Rattle.runs.specs.Lists.{Beginning}
use Rattle.runs.specs.Promises.{Clashes, NeverAlarms}

-- a run is worked out from what it is fed: a shadow is the bare run over the tickets that its level sees
pub record AShadowIsTheBareRunOfWhatItsLevelSees (w : Setting) : Type 0 where
  pub between_tickets : (m : ℕ) (ts : List Ticket) → run w (visible w m) ts ≡ run w every (seen w m ts)
  pub at_a_seen_ticket : (m : ℕ) (before : List Ticket) (t : Ticket) → visible w m t ≡ true → shadow w m before t ≡ bare w (seen w m before) t
  pub at_a_hidden_ticket : (m : ℕ) (before : List Ticket) (t : Ticket) → visible w m t ≡ false
      → shadow w m before t ≡ idle (run w (visible w m) before).words

-- behind a front of the bare tickets xs stands x, which the level sees; of its shadow it sees ys: what it sees of the front, and then others
pub record Parts (sees : Ticket → Bool) (xs ys : List Ticket) (place : ℕ) (x : Ticket) (others : List Ticket) : Type 0 where
  pub front : List Ticket
  pub more : List Ticket
  pub bare_is : front ++ (x ∷ more) ≡ xs
  pub counted : length front ≡ place
  pub seen_there : sees x ≡ true
  pub shadow_is : filter sees front ++ others ≡ ys

-- missing: all bare tickets are matched; extra: the shadow has no ticket for x; different: it has another
abbrev pub Tells : Kind → (Ticket → Bool) → List Ticket → List Ticket → ℕ → Type 0
Tells missing sees xs ys place = (place ≡ length xs) × Beginning (filter sees xs) ys
Tells extra sees xs ys place = (x : Ticket) × Parts sees xs ys place x []
Tells different sees xs ys place = (x y : Ticket) × (more : List Ticket) × Parts sees xs ys place x (y ∷ more) × (x ≢ y)

-- the level of an alarm clashes and no smaller one does; kind and place tell how its shadow and the bare run part, which differ in what it
-- sees, so that where the kind is missing the shadow alone goes on; and where it is extra the shadow ended
pub record Explains (w : Setting) (before : List Ticket) (t : Ticket) (a : Alarm) : Type 0 where
  pub is_level : a.level < w.levels
  pub clashes_there : Clashes w a.level before t
  pub none_below : (m : ℕ) → m < a.level → Clashes w m before t → ⊥
  pub parts_there : Tells a.kind (visible w a.level) (bare w before t).made (seen w a.level (shadow w a.level before t).made) a.place
  pub differs : seen w a.level (bare w before t).made ≡ seen w a.level (shadow w a.level before t).made → ⊥
  pub ended : a.kind ≡ extra → (shadow w a.level before t).stalled ≡ false

abbrev pub AnAlarmExplainsTheLeastClash : Setting → Type 0
AnAlarmExplainsTheLeastClash w =
    (before : List Call) (c : Call) (t : Ticket) (a : Alarm) → HandsIn c t → (reply w before c).answer ≡ brought (alarm a)
    → Explains w (proper_tickets before) t a

-- the bare run ended, the level's shadow stalled, and no smaller level's did
pub record LeastToStall (w : Setting) (before : List Ticket) (t : Ticket) (m : ℕ) : Type 0 where
  pub bare_ended : (bare w before t).stalled ≡ false
  pub is_level : m < w.levels
  pub stalls_there : (shadow w m before t).stalled ≡ true
  pub none_below : (k : ℕ) → k < m → (shadow w k before t).stalled ≡ false

abbrev pub NamesTheRun : Setting → List Ticket → Ticket → Stall → Type 0
NamesTheRun w before t of_bare = (bare w before t).stalled ≡ true
NamesTheRun w before t (of_shadow m) = LeastToStall w before t m

-- a stall names the bare run, or else the smallest level
abbrev pub AStallNamesTheFirstRun : Setting → Type 0
AStallNamesTheFirstRun w =
    (before : List Call) (c : Call) (t : Ticket) (s : Stall) → HandsIn c t → (reply w before c).answer ≡ brought (stall s)
    → NamesTheRun w (proper_tickets before) t s

-- what an answer brought, if it is one to a hand-in that was taken
abbrev pub verdict_in : Answer → List Verdict
verdict_in (brought v) = v ∷ []
verdict_in (refused f) = []
verdict_in (told s) = []

abbrev pub verdicts_in : List Reply → List Verdict
verdicts_in [] = []
verdicts_in (r ∷ rs) = verdict_in r.answer ++ verdicts_in rs

-- a state tells what the answers before it brought, and nothing else
abbrev pub AStateTellsWhatWasAnswered : Setting → Type 0
AStateTellsWhatWasAnswered w =
    (calls : List Call) → (reply w calls ask_state).answer ≡ told (foldl goes_on running (verdicts_in (replies w calls)))

-- a hand-in that is taken releases the longest beginning of the bare run's tickets of which every level's shadow matches what the level sees
pub record LongestMatched (w : Setting) (before : List Ticket) (t : Ticket) (released : List Ticket) : Type 0 where
  pub beginning : Beginning released (bare w before t).made
  pub matched : (m : ℕ) → m < w.levels → Beginning (seen w m released) (seen w m (shadow w m before t).made)
  pub longest : (ts : List Ticket) → Beginning ts (bare w before t).made
      → ((m : ℕ) → m < w.levels → Beginning (seen w m ts) (seen w m (shadow w m before t).made)) → Beginning ts released

abbrev pub AReleaseIsTheLongestThatAllMatch : Setting → Type 0
AReleaseIsTheLongestThatAllMatch w =
    (before : List Call) (c : Call) (t : Ticket) (v : Verdict) → HandsIn c t → (reply w before c).answer ≡ brought v
    → LongestMatched w (proper_tickets before) t (reply w before c).released

-- a meaning that makes at most sixteen tickets
abbrev pub MakesFew : Setting → Type 0
MakesFew w = (words : List ℕ) (t : Ticket) → length (w.means words t).made ≤ 16

-- of such a meaning at most sixteen tickets are released, and a slip keeps its length
pub record ASlipIsEnough (w : Setting) : Type 0 where
  pub few : MakesFew w → (before : List Call) (c : Call) → length (reply w before c).released ≤ 16
  pub slip_length : MakesFew w → (before : List Call) (bytes : List ℕ) (slip : List Ticket)
      → length (reply w before (hand_in bytes slip)).slip ≡ length slip

-- where no level clashes as long as neither the bare run nor its shadow has stalled, there is never an alarm
abbrev pub RunsThatNeverClashNeverAlarm : Setting → Type 0
RunsThatNeverClashNeverAlarm w =
    ((m : ℕ) → m < w.levels → (before : List Ticket) (t : Ticket) → (run w every before).stalled ≡ false
    → (run w (visible w m) before).stalled ≡ false → Clashes w m before t → ⊥)
    → NeverAlarms w
