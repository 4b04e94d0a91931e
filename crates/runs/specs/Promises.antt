-- What a monitor promises, over every list of calls. Assumes nothing.
use Rattle.std.specs.Prelude.{◌≡◌, ℕ, ◌<◌, Bool, true, false, ◌⊎◌, ◌↔◌, List, ◌∷◌, ◌++◌}
use Rattle.ticket.specs.declared.Ticket.{Ticket}
use Rattle.runs.specs.Setting.{Setting, seen}
use Rattle.runs.specs.Calls.{Call, proper_tickets, HandsIn, AgreeAt}
use Rattle.runs.specs.Runs.{bare, shadow}
use Rattle.runs.specs.Verdicts.{Alarm, Verdict, ok, alarm}
use Rattle.runs.specs.Replies.{brought, reply, released_to}
use Rattle.runs.specs.Lists.{Beginning, Comparable}

-- two lists of calls that agree at a level release the same tickets to it, save that one may break off earlier
abbrev pub AgreeingListsReleasePrefixes : Setting → Type 0
AgreeingListsReleasePrefixes w =
    (m : ℕ) → m < w.levels → (cs ds : List Call) → AgreeAt w m cs ds → Comparable (released_to w m cs) (released_to w m ds)

-- what the test of a clash tells: of two runs, that ended or stalled, one is seen to make xs and the other ys
abbrev pub Clash : Bool → List Ticket → Bool → List Ticket → Type 0
Clash false xs false ys = xs ≡ ys → ⊥
Clash true xs false ys = Beginning xs ys → ⊥
Clash false xs true ys = Beginning ys xs → ⊥
Clash true xs true ys = Comparable xs ys → ⊥

-- level m clashes at the ticket t behind a list
abbrev pub Clashes : Setting → ℕ → List Ticket → Ticket → Type 0
Clashes w m before t =
    Clash (bare w before t).stalled (seen w m (bare w before t).made) (shadow w m before t).stalled (seen w m (shadow w m before t).made)

abbrev pub SomeLevelClashes : Setting → List Ticket → Ticket → Type 0
SomeLevelClashes w before t = (m : ℕ) × (m < w.levels) × Clashes w m before t

abbrev pub SomeRunStalls : Setting → List Ticket → Ticket → Type 0
SomeRunStalls w before t = ((bare w before t).stalled ≡ true) ⊎ ((m : ℕ) × (m < w.levels) × ((shadow w m before t).stalled ≡ true))

-- the ticket u stands in a list, behind the tickets g
pub record Earlier (g : List Ticket) (u : Ticket) (ts : List Ticket) : Type 0 where
  pub later : List Ticket
  pub stands : g ++ (u ∷ later) ≡ ts

-- at t, behind a list, some level clashes, and no level clashed and no run stalled at a ticket of the list
pub record FirstClash (w : Setting) (before : List Ticket) (t : Ticket) : Type 0 where
  pub clashes_here : SomeLevelClashes w before t
  pub no_earlier_clash : (g : List Ticket) (u : Ticket) → Earlier g u before → SomeLevelClashes w g u → ⊥
  pub no_earlier_stall : (g : List Ticket) (u : Ticket) → Earlier g u before → SomeRunStalls w g u → ⊥

-- the call is answered by an alarm
abbrev pub AnswersAlarm : Setting → List Call → Call → Type 0
AnswersAlarm w before c = (a : Alarm) × ((reply w before c).answer ≡ brought (alarm a))

-- a hand-in of a proper ticket is answered by an alarm where the runs first clash, and nowhere else
abbrev pub AlarmsExactlyAtTheFirstClash : Setting → Type 0
AlarmsExactlyAtTheFirstClash w =
    (before : List Call) (c : Call) (t : Ticket) → HandsIn c t → AnswersAlarm w before c ↔ FirstClash w (proper_tickets before) t

-- all that the bare run makes of the call's ticket is released, in order
abbrev pub ReleasesAll : Setting → List Call → Call → Type 0
ReleasesAll w before c = (t : Ticket) → HandsIn c t → (reply w before c).released ≡ (bare w (proper_tickets before) t).made

-- nothing is held back at a hand-in that is answered ok, nor at one before a hand-in that is answered ok, alarm or stall
pub record AllIsReleasedUntilThen (w : Setting) : Type 0 where
  pub at_an_ok : (before : List Call) (c : Call) → (reply w before c).answer ≡ brought ok → ReleasesAll w before c
  pub before_any_verdict : (before later : List Call) (c d : Call) (v : Verdict)
      → (reply w (before ++ (c ∷ later)) d).answer ≡ brought v → ReleasesAll w before c

-- no hand-in of any list is answered by an alarm
abbrev pub NeverAlarms : Setting → Type 0
NeverAlarms w = (before : List Call) (c : Call) → AnswersAlarm w before c → ⊥
