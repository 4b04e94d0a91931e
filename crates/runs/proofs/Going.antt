-- While a monitor runs no run has stalled, and each reacts by its words. Assumes nothing.
use Rattle.std.proofs.Common.{◌≡◌, ℕ, ◌<◌, Bool, true, false, cond, not, ◌&&◌, List, refl, ap, ◌∙◌}
use Rattle.std.proofs.lemmas.Bool.{or_from}
use Rattle.ticket.specs.declared.Ticket.{Ticket}
use Rattle.runs.specs.Setting.{Setting, visible}
use Rattle.runs.specs.Runs.{Run, idle, reaction, run, every, bare, shadow}
use Rattle.runs.proofs.Lists.{by_the_last}
use Rattle.runs.proofs.Runs.{run_last}
use Rattle.runs.proofs.Verdicts.{RunsOn, running_last}

and_true : (a : Bool) → (a && true) ≡ a
and_true true = refl
and_true false = refl

-- what a run makes that has not stalled
reacts : (w : Setting) (fed : Bool) (r : Run) (t : Ticket) → r.stalled ≡ false → reaction w fed r t ≡ cond fed (w.means r.words t) (idle r.words)
reacts w fed r t e =
    ap (λ b. cond (fed && not b) (w.means r.words t) (idle r.words)) e ∙ ap (λ b. cond b (w.means r.words t) (idle r.words)) (and_true fed)

module _ (w : Setting) where
  -- no run has stalled
  pub bare_goes_on : (ts : List Ticket) → RunsOn w ts → (run w every ts).stalled ≡ false
  bare_goes_on =
      by_the_last (λ ts. RunsOn w ts → (run w every ts).stalled ≡ false) (λ e. refl)
      (λ ts t before e.
      let p = running_last w ts t e in
      ap (λ r. r.stalled) (run_last w every ts t) ∙ or_from (run w every ts).stalled (bare w ts t).stalled (before p.0) p.1.bare_ends)

  pub shadow_goes_on : (m : ℕ) → m < w.levels → (ts : List Ticket) → RunsOn w ts → (run w (visible w m) ts).stalled ≡ false
  shadow_goes_on m l =
      by_the_last (λ ts. RunsOn w ts → (run w (visible w m) ts).stalled ≡ false) (λ e. refl)
      (λ ts t before e.
      let p = running_last w ts t e in
      ap (λ r. r.stalled) (run_last w (visible w m) ts t)
      ∙ or_from (run w (visible w m) ts).stalled (shadow w m ts t).stalled (before p.0) (p.1.shadows_end m l))

  pub bare_reacts : (ts : List Ticket) (t : Ticket) → RunsOn w ts → bare w ts t ≡ w.means (run w every ts).words t
  bare_reacts ts t e = reacts w true (run w every ts) t (bare_goes_on ts e)

  pub shadow_reacts : (m : ℕ) → m < w.levels → (ts : List Ticket) (t : Ticket) → RunsOn w ts
      → shadow w m ts t ≡ cond (visible w m t) (w.means (run w (visible w m) ts).words t) (idle (run w (visible w m) ts).words)
  shadow_reacts m l ts t e = reacts w (visible w m t) (run w (visible w m) ts) t (shadow_goes_on m l ts e)
