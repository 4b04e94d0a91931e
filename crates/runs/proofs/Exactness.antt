-- Alarms stand exactly at the first clash, and nothing is held back before. Assumes nothing.
use Rattle.std.proofs.Common.{◌≡◌, ℕ, true, List, [], ◌∷◌, ◌++◌, sym, refl, ap, ◌∙◌, subst, inl, inr, ⊎_elim, append_assoc}
use Rattle.std.proofs.lemmas.Bool.{both_ways}
use Rattle.ticket.specs.declared.Ticket.{Ticket}
use Rattle.runs.specs.Setting.{Setting, seen}
use Rattle.runs.specs.Calls.{proper_tickets}
use Rattle.runs.specs.Runs.{bare, shadow}
use Rattle.runs.specs.Clashes.{clashes}
use Rattle.runs.specs.Verdicts.{ok, alarm, verdict}
use Rattle.runs.specs.Replies.{brought}
use Rattle.runs.specs.Promises.{Clashes, SomeLevelClashes, SomeRunStalls, Earlier, AlarmsExactlyAtTheFirstClash, AllIsReleasedUntilThen}
use Rattle.runs.proofs.Lists.{way, by_the_last}
use Rattle.runs.proofs.Partings.{clash_told}
use Rattle.runs.proofs.Releases.{all_matched}
use Rattle.runs.proofs.Replies.{proper_append, taken, taken_while_running, ran_before}
use Rattle.runs.proofs.Verdicts.{is_ok, RunsOn, Calm, calm_from_ok, calm_within, running_on, alarm_found, some_alarm}

module _ (w : Setting) where
  pub clash_from_test : (m : ℕ) (h : List Ticket) (t : Ticket) → clashes w m h t ≡ true → Clashes w m h t
  clash_from_test m h t =
      (clash_told (bare w h t).stalled (seen w m (bare w h t).made) (shadow w m h t).stalled (seen w m (shadow w m h t).made)).0

  pub test_from_clash : (m : ℕ) (h : List Ticket) (t : Ticket) → Clashes w m h t → clashes w m h t ≡ true
  test_from_clash m h t =
      (clash_told (bare w h t).stalled (seen w m (bare w h t).made) (shadow w m h t).stalled (seen w m (shadow w m h t).made)).1

  -- a ticket brings nothing exactly if no level clashes and no run stalls
  calm_no_clash : (h : List Ticket) (t : Ticket) → Calm w h t → SomeLevelClashes w h t → ⊥
  calm_no_clash h t c k = both_ways (clashes w k.0 h t) (c.no_clash k.0 k.1) (test_from_clash k.0 h t k.2)

  calm_no_stall : (h : List Ticket) (t : Ticket) → Calm w h t → SomeRunStalls w h t → ⊥
  calm_no_stall h t c s =
      ⊎_elim
      (λ b. both_ways (bare w h t).stalled c.bare_ends b)
      (λ k. both_ways (shadow w k.0 h t).stalled (c.shadows_end k.0 k.1) k.2)
      s

  calm_from_none : (h : List Ticket) (t : Ticket) → (SomeLevelClashes w h t → ⊥) → (SomeRunStalls w h t → ⊥) → Calm w h t
  calm_from_none h t f g =
      record {
        no_clash = λ m l. way (clashes w m h t) (λ e. absurd (f (m, l, clash_from_test m h t e))) (λ e. e);
        bare_ends = way (bare w h t).stalled (λ e. absurd (g (inl e))) (λ e. e);
        shadows_end = λ m l. way (shadow w m h t).stalled (λ e. absurd (g (inr (m, l, e)))) (λ e. e);
      }

  earlier_calm : (h g : List Ticket) (u : Ticket) → RunsOn w h → Earlier g u h → Calm w g u
  earlier_calm h g u r k = (calm_within w g u k.later (subst (RunsOn w) (sym k.stands) r)).1

  -- where every ticket brought nothing the monitor runs
  runs_if_calm : (h : List Ticket) → ((g : List Ticket) (u : Ticket) → Earlier g u h → Calm w g u) → RunsOn w h
  runs_if_calm =
      by_the_last (λ h. ((g : List Ticket) (u : Ticket) → Earlier g u h → Calm w g u) → RunsOn w h) (λ f. refl)
      (λ h t before f.
      running_on w h t
      (before (λ g u k. f g u (record { later = k.later ++ (t ∷ []); stands = sym (append_assoc g (u ∷ k.later) (t ∷ [])) ∙ ap (λ l. l ++ (t ∷ [])) k.stands })))
      (f h t (record { later = []; stands = refl })))

  pub alarms_exactly_at_the_first_clash : AlarmsExactlyAtTheFirstClash w
  alarms_exactly_at_the_first_clash before c t p =
      let h = proper_tickets before in (
        (λ a.
            let k = taken w before c t (alarm a.0) p a.1 in
            let f = (alarm_found w h t a.0 k.verdict_is).0 in
            record {
              clashes_here = (a.0.level, f.is_below, clash_from_test a.0.level h t f.passes);
              no_earlier_clash = λ g u e. calm_no_clash g u (earlier_calm h g u k.ran e);
              no_earlier_stall = λ g u e. calm_no_stall g u (earlier_calm h g u k.ran e);
            }),
        (λ f.
            let r = runs_if_calm h (λ g u e. calm_from_none g u (f.no_earlier_clash g u e) (f.no_earlier_stall g u e)) in
            let k = f.clashes_here in
            let a = some_alarm w h t k.0 k.1 (test_from_clash k.0 h t k.2) in
            (a.0, taken_while_running w before c t p r ∙ ap brought a.1)),
      )

  pub all_is_released_until_then : AllIsReleasedUntilThen w
  all_is_released_until_then =
      record {
        at_an_ok = λ before c e t p.
            let k = taken w before c t ok p e in
            k.released_is ∙ all_matched w (proper_tickets before) t (calm_from_ok w (proper_tickets before) t (ap is_ok k.verdict_is));
        before_any_verdict = λ before later c d v e t p.
            let h = proper_tickets before in
            let whole = proper_append before (c ∷ later) ∙ ap (λ l. h ++ (l ++ proper_tickets later)) p in
            let q = calm_within w h t (proper_tickets later) (subst (RunsOn w) whole (ran_before w (before ++ (c ∷ later)) d v e)) in
            (taken w before c t (verdict w h t) p (taken_while_running w before c t p q.0)).released_is ∙ all_matched w h t q.1;
      }
