-- What a ticket brings, and which lists leave a monitor running. Assumes nothing.
use Rattle.std.proofs.Common.{◌≡◌, ℕ, ◌<◌, Bool, true, false, cond, ◌&&◌, ◌⊎◌, List, [], ◌∷◌, ◌++◌, Some, None, Option, sym, refl, ap, ◌∙◌, subst, inl, inr, append_assoc, append-nil, arith}
use mathlib.Core.List.{foldl, foldl-append}
use Rattle.std.specs.Option.{option_map}
use Rattle.std.proofs.lemmas.Bool.{and_parts, and_from, both_ways}
use Rattle.ticket.specs.declared.Ticket.{Ticket}
use Rattle.runs.specs.Setting.{Setting}
use Rattle.runs.specs.Runs.{bare, shadow}
use Rattle.runs.specs.Clashes.{clashes, parting_at, least_level}
use Rattle.runs.specs.Verdicts.{Alarm, Stall, of_bare, of_shadow, Verdict, ok, alarm, stall, alarm_of, alarm_at, stall_at, verdict_of, verdict}
use Rattle.runs.specs.States.{State, closed, running, alarmed, stalled, goes_on, state_after, is_running}
use Rattle.runs.specs.Lists.{along}
use Rattle.runs.proofs.Levels.{which, some_not_none, Found, found, none_found, none_passes}
use Rattle.runs.proofs.Lists.{way, along_last, by_the_last}

abbrev pub is_ok : Verdict → Bool
is_ok ok = true
is_ok (alarm a) = false
is_ok (stall s) = false

mapped_none : {X Y : Type 0} (f : X → Y) (o : Option X) → option_map f o ≡ None → o ≡ None
mapped_none f None e = refl
mapped_none f (Some x) e = absurd (some_not_none (f x) e)

mapped_some : {X Y : Type 0} (f : X → Y) (o : Option X) (y : Y) → option_map f o ≡ Some y → (x : X) × (o ≡ Some x) × (y ≡ f x)
mapped_some f None y e = absurd (some_not_none y (sym e))
mapped_some f (Some x) y e = (x, refl, cc)

cond_none : {X : Type 0} (b : Bool) (x : X) (o : Option X) → cond b (Some x) o ≡ None → (b ≡ false) × (o ≡ None)
cond_none true x o e = absurd (some_not_none x e)
cond_none false x o e = (refl, e)

both_none : (a : Option Alarm) (s : Option Stall) → is_ok (verdict_of a s) ≡ true → (a ≡ None) × (s ≡ None)
both_none None None e = (refl, refl)
both_none None (Some s) e = absurd (both_ways false refl e)
both_none (Some a) s e = absurd (both_ways false refl e)

alarm_some : (o : Option Alarm) (s : Option Stall) (a : Alarm) → verdict_of o s ≡ alarm a → o ≡ Some a
alarm_some None None a e = let z : ◌≡◌ {A = ℕ} 0 1 = cc in absurd (omega arith)
alarm_some None (Some s) a e = let z : ◌≡◌ {A = ℕ} 0 1 = cc in absurd (omega arith)
alarm_some (Some b) s a e = cc

stall_some : (o : Option Alarm) (s : Option Stall) (k : Stall) → verdict_of o s ≡ stall k → s ≡ Some k
stall_some None None k e = let z : ◌≡◌ {A = ℕ} 0 1 = cc in absurd (omega arith)
stall_some None (Some j) k e = cc
stall_some (Some b) s k e = let z : ◌≡◌ {A = ℕ} 0 1 = cc in absurd (omega arith)

-- no level clashes and no run stalls
pub record Calm (w : Setting) (before : List Ticket) (t : Ticket) : Type 0 where
  pub no_clash : (m : ℕ) → m < w.levels → clashes w m before t ≡ false
  pub bare_ends : (bare w before t).stalled ≡ false
  pub shadows_end : (m : ℕ) → m < w.levels → (shadow w m before t).stalled ≡ false

module _ (w : Setting) where
  pub calm_from_ok : (before : List Ticket) (t : Ticket) → is_ok (verdict w before t) ≡ true → Calm w before t
  calm_from_ok before t e =
      let p = both_none (alarm_at w before t) (stall_at w before t) e in
      let shadows = λ (m : ℕ). (shadow w m before t).stalled in
      let q = cond_none (bare w before t).stalled of_bare (option_map of_shadow (least_level w.levels shadows)) p.1 in
      record {
        no_clash = none_found w.levels (λ m. clashes w m before t) (mapped_none (λ m. alarm_of m (parting_at w m before t)) (least_level w.levels (λ m. clashes w m before t)) p.0);
        bare_ends = q.0;
        shadows_end = none_found w.levels shadows (mapped_none of_shadow (least_level w.levels shadows) q.1);
      }

  pub ok_from_calm : (before : List Ticket) (t : Ticket) → Calm w before t → verdict w before t ≡ ok
  ok_from_calm before t c =
      let shadows = λ (m : ℕ). (shadow w m before t).stalled in
      ap (λ o. verdict_of (option_map (λ m. alarm_of m (parting_at w m before t)) o) (stall_at w before t)) (none_passes w.levels (λ m. clashes w m before t) c.no_clash)
      ∙ ap (λ b. verdict_of None (cond b (Some of_bare) (option_map of_shadow (least_level w.levels shadows)))) c.bare_ends
      ∙ ap (λ o. verdict_of None (option_map of_shadow o)) (none_passes w.levels shadows c.shadows_end)

  -- an alarm is that of the smallest level that clashes
  pub alarm_found : (before : List Ticket) (t : Ticket) (a : Alarm) → verdict w before t ≡ alarm a
      → Found w.levels (λ m. clashes w m before t) a.level × (a ≡ alarm_of a.level (parting_at w a.level before t))
  alarm_found before t a e =
      let test = λ (m : ℕ). clashes w m before t in
      let of = λ (m : ℕ). alarm_of m (parting_at w m before t) in
      let k = mapped_some of (least_level w.levels test) a (alarm_some (alarm_at w before t) (stall_at w before t) a e) in (
        subst (λ (b : Alarm). Found w.levels test b.level) (sym k.2) (found w.levels test k.0 k.1),
        k.2 ∙ ap (λ b. of b.level) (sym k.2),
      )

  -- where a level clashes there is an alarm
  pub some_alarm : (before : List Ticket) (t : Ticket) (m : ℕ) → m < w.levels → clashes w m before t ≡ true → (a : Alarm) × (verdict w before t ≡ alarm a)
  some_alarm before t m l e =
      let test = λ (m : ℕ). clashes w m before t in
      let of = λ (m : ℕ). alarm_of m (parting_at w m before t) in
      which (least_level w.levels test)
      (λ n. absurd (both_ways (test m) (none_found w.levels test n m l) e))
      (λ k f. (of k, ap (λ o. verdict_of (option_map of o) (stall_at w before t)) f))

  -- a stall is that of the bare run, or of the smallest level whose shadow stalls
  pub stall_found : (before : List Ticket) (t : Ticket) (s : Stall) → verdict w before t ≡ stall s
      → (((bare w before t).stalled ≡ true) × (s ≡ of_bare))
      ⊎ ((m : ℕ) × ((bare w before t).stalled ≡ false) × Found w.levels (λ k. (shadow w k before t).stalled) m × (s ≡ of_shadow m))
  stall_found before t s e =
      let shadows = λ (m : ℕ). (shadow w m before t).stalled in
      let one = stall_some (alarm_at w before t) (stall_at w before t) s e in
      way (bare w before t).stalled
      (λ b. inl (b, let z : Some of_bare ≡ Some s = sym (ap (λ b. cond b (Some of_bare) (option_map of_shadow (least_level w.levels shadows))) b) ∙ one in cc))
      (λ b.
      let k = mapped_some of_shadow (least_level w.levels shadows) s (sym (ap (λ b. cond b (Some of_bare) (option_map of_shadow (least_level w.levels shadows))) b) ∙ one) in
      inr (k.0, b, found w.levels shadows k.0 k.1, k.2))

  pub state_after_last : (ts : List Ticket) (t : Ticket) → state_after w (ts ++ (t ∷ [])) ≡ goes_on (state_after w ts) (verdict w ts t)
  state_after_last ts t =
      ap (λ l. foldl goes_on running l) (along_last (verdict w) ts t)
      ∙ foldl-append goes_on running (along (verdict w) ts) (verdict w ts t ∷ [])

goes_on_running : (s : State) (v : Verdict) → is_running (goes_on s v) ≡ (is_running s && is_ok v)
goes_on_running closed v = refl
goes_on_running running ok = refl
goes_on_running running (alarm a) = refl
goes_on_running running (stall s) = refl
goes_on_running (alarmed a) v = refl
goes_on_running (stalled s) v = refl

module _ (w : Setting) where
  abbrev pub RunsOn : List Ticket → Type 0
  RunsOn ts = is_running (state_after w ts) ≡ true

  running_test : (ts : List Ticket) (t : Ticket) → is_running (state_after w (ts ++ (t ∷ []))) ≡ (is_running (state_after w ts) && is_ok (verdict w ts t))
  running_test ts t = ap is_running (state_after_last w ts t) ∙ goes_on_running (state_after w ts) (verdict w ts t)

  -- a monitor runs on if it ran before, and the ticket brought nothing
  pub running_last : (ts : List Ticket) (t : Ticket) → RunsOn (ts ++ (t ∷ [])) → RunsOn ts × Calm w ts t
  running_last ts t e =
      let p = and_parts (is_running (state_after w ts)) (is_ok (verdict w ts t)) (sym (running_test ts t) ∙ e) in
      (p.0, calm_from_ok w ts t p.1)

  pub running_on : (ts : List Ticket) (t : Ticket) → RunsOn ts → Calm w ts t → RunsOn (ts ++ (t ∷ []))
  running_on ts t e c =
      running_test ts t ∙ and_from (is_running (state_after w ts)) (is_ok (verdict w ts t)) e (ap is_ok (ok_from_calm w ts t c))

  pub running_before : (ts later : List Ticket) → RunsOn (ts ++ later) → RunsOn ts
  running_before ts =
      by_the_last (λ later. RunsOn (ts ++ later) → RunsOn ts)
      (λ e. subst RunsOn (append-nil ts) e)
      (λ later t before e. before (running_last (ts ++ later) t (subst RunsOn (sym (append_assoc ts later (t ∷ []))) e)).0)

  -- each ticket of a list that leaves the monitor running brought nothing
  pub calm_within : (g : List Ticket) (u : Ticket) (later : List Ticket) → RunsOn (g ++ (u ∷ later)) → RunsOn g × Calm w g u
  calm_within g u later e =
      running_last g u (running_before (g ++ (u ∷ [])) later (subst RunsOn (sym (append_assoc g (u ∷ []) later)) e))
