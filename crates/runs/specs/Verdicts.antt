-- What a proper ticket brings: ok, an alarm or a stall. Assumes nothing.
use Rattle.std.specs.Prelude.{ℕ, cond, List, Some, None, Option}
use Rattle.std.specs.Option.{option_map}
use Rattle.ticket.specs.declared.Ticket.{Ticket}
use Rattle.runs.specs.Setting.{Setting}
use Rattle.runs.specs.Runs.{bare, shadow}
use Rattle.runs.specs.Clashes.{Kind, Parting, clashes, parting_at, least_level}

pub record Alarm : Type 0 where
  pub kind : Kind
  pub level : ℕ
  pub place : ℕ

-- the run that stalled: the bare run, or the shadow of a level
pub data Stall : Type 0 where
  of_bare : Stall
  of_shadow : ℕ → Stall

-- what a proper ticket brings
pub data Verdict : Type 0 where
  ok : Verdict
  alarm : Alarm → Verdict
  stall : Stall → Verdict

abbrev pub alarm_of : ℕ → Parting → Alarm
alarm_of m p = record { kind = p.kind; level = m; place = p.place }

-- the alarm of the smallest level that clashes
abbrev pub alarm_at : Setting → List Ticket → Ticket → Option Alarm
alarm_at w before t = option_map (λ m. alarm_of m (parting_at w m before t)) (least_level w.levels (λ m. clashes w m before t))

-- the bare run if it stalls, or else the smallest level whose shadow does
abbrev pub stall_at : Setting → List Ticket → Ticket → Option Stall
stall_at w before t =
    cond (bare w before t).stalled (Some of_bare) (option_map of_shadow (least_level w.levels (λ m. (shadow w m before t).stalled)))

-- alarm, else stall, else ok
abbrev pub verdict_of : Option Alarm → Option Stall → Verdict
verdict_of (Some a) s = alarm a
verdict_of None (Some s) = stall s
verdict_of None None = ok

-- what a ticket brings behind a list
abbrev pub verdict : Setting → List Ticket → Ticket → Verdict
verdict w before t = verdict_of (alarm_at w before t) (stall_at w before t)
