-- What alarms, stalls and releases tell of the runs. Assumes nothing.
use Rattle.std.proofs.Common.{◌≡◌, ℕ, Bool, true, false, List, ◌∷◌, ◌++◌, filter, sym, refl, ap, ◌∙◌, subst, inl, inr, ⊎_elim, append-nil}
use Rattle.std.proofs.lemmas.List.Elements.{filter-append}
use Rattle.std.proofs.lemmas.Bool.{both_ways}
use Rattle.ticket.specs.declared.Ticket.{Ticket}
use Rattle.runs.specs.Setting.{Setting, visible, seen}
use Rattle.runs.specs.Calls.{proper_tickets}
use Rattle.runs.specs.Runs.{bare, shadow}
use Rattle.runs.specs.Clashes.{Kind, extra, clashes, parting_at}
use Rattle.runs.specs.Verdicts.{Alarm, Stall, alarm, stall, verdict}
use Rattle.runs.specs.Lists.{Beginning}
use Rattle.runs.specs.Promises.{Clash}
use Rattle.runs.specs.Laws.{Tells, Explains, AnAlarmExplainsTheLeastClash, NamesTheRun, AStallNamesTheFirstRun, AReleaseIsTheLongestThatAllMatch, RunsThatNeverClashNeverAlarm}
use Rattle.runs.proofs.Exactness.{clash_from_test, test_from_clash}
use Rattle.runs.proofs.Telling.{parting_tells}
use Rattle.runs.proofs.Going.{bare_goes_on, shadow_goes_on}
use Rattle.runs.proofs.Lists.{begin_same}
use Rattle.runs.proofs.Releases.{matched_is_longest}
use Rattle.runs.proofs.Replies.{taken, brought_by_proper}
use Rattle.runs.proofs.Verdicts.{alarm_found, stall_found}

clash_differs : (a : Bool) (xs : List Ticket) (b : Bool) (ys : List Ticket) → Clash a xs b ys → xs ≡ ys → ⊥
clash_differs false xs false ys c e = c e
clash_differs true xs false ys c e = c (begin_same e)
clash_differs false xs true ys c e = c (begin_same (sym e))
clash_differs true xs true ys c e = c (inl (begin_same e))

-- a run that clashes with one that goes on behind it has ended
clash_ended : (a : Bool) (xs : List Ticket) (b : Bool) (ys : List Ticket) → Clash a xs b ys → Beginning ys xs → b ≡ false
clash_ended a xs false ys c e = refl
clash_ended false xs true ys c e = absurd (c e)
clash_ended true xs true ys c e = absurd (c (inr e))

extra_goes_on : (sees : Ticket → Bool) (k : Kind) (xs ys : List Ticket) (n : ℕ) → Tells k sees xs ys n → k ≡ extra → Beginning ys (filter sees xs)
extra_goes_on sees k xs ys n p e =
    let q : Tells extra sees xs ys n = subst (λ (j : Kind). Tells j sees xs ys n) e p in
    let front = q.1.front in
    let behind = q.0 ∷ q.1.more in
    record {
      rest = filter sees behind;
      joins = ap (λ l. l ++ filter sees behind) (sym q.1.shadow_is ∙ append-nil (filter sees front))
          ∙ sym (filter-append sees front behind) ∙ ap (filter sees) q.1.bare_is;
    }

module _ (w : Setting) where
  explains : (h : List Ticket) (t : Ticket) (a : Alarm) → verdict w h t ≡ alarm a → Explains w h t a
  explains h t a e =
      let f = alarm_found w h t a e in
      let m = a.level in
      let xs = (bare w h t).made in
      let ys = seen w m (shadow w m h t).made in
      let clash = clash_from_test w m h t f.0.passes in
      let kind = ap (λ b. b.kind) f.1 in
      let place = ap (λ b. b.place) f.1 in
      let tells : Tells a.kind (visible w m) xs ys a.place =
      subst (λ (k : Kind). Tells k (visible w m) xs ys a.place) (sym kind)
      (subst (λ (n : ℕ). Tells (parting_at w m h t).kind (visible w m) xs ys n) (sym place) (parting_tells (visible w m) xs ys)) in
      record {
        is_level = f.0.is_below;
        clashes_there = clash;
        none_below = λ k l c. both_ways (clashes w k h t) (f.0.none_before k l) (test_from_clash w k h t c);
        parts_there = tells;
        differs = clash_differs (bare w h t).stalled (seen w m xs) (shadow w m h t).stalled ys clash;
        ended = λ x. clash_ended (bare w h t).stalled (seen w m xs) (shadow w m h t).stalled ys clash (extra_goes_on (visible w m) a.kind xs ys a.place tells x);
      }

  names : (h : List Ticket) (t : Ticket) (s : Stall) → verdict w h t ≡ stall s → NamesTheRun w h t s
  names h t s e =
      ⊎_elim
      (λ p. subst (NamesTheRun w h t) (sym p.1) p.0)
      (λ p. subst (NamesTheRun w h t) (sym p.3) (record {
        bare_ended = p.1;
        is_level = p.2.is_below;
        stalls_there = p.2.passes;
        none_below = p.2.none_before;
      }))
      (stall_found w h t s e)

  pub an_alarm_explains_the_least_clash : AnAlarmExplainsTheLeastClash w
  an_alarm_explains_the_least_clash before c t a p e = explains (proper_tickets before) t a (taken w before c t (alarm a) p e).verdict_is

  pub a_stall_names_the_first_run : AStallNamesTheFirstRun w
  a_stall_names_the_first_run before c t s p e = names (proper_tickets before) t s (taken w before c t (stall s) p e).verdict_is

  pub a_release_is_the_longest_that_all_match : AReleaseIsTheLongestThatAllMatch w
  a_release_is_the_longest_that_all_match before c t v p e =
      rw (taken w before c t v p e).released_is (matched_is_longest w (proper_tickets before) t)

  pub runs_that_never_clash_never_alarm : RunsThatNeverClashNeverAlarm w
  runs_that_never_clash_never_alarm calm before c a =
      let h = proper_tickets before in
      let p = brought_by_proper w before c (alarm a.0) a.1 in
      let k = taken w before c p.0 (alarm a.0) p.1 a.1 in
      let x = explains h p.0 a.0 k.verdict_is in
      calm a.0.level x.is_level h p.0 (bare_goes_on w h k.ran) (shadow_goes_on w a.0.level x.is_level h k.ran) x.clashes_there
