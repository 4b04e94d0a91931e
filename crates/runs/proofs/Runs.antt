-- A run is worked out from what it is fed. Assumes nothing.
use Rattle.std.proofs.Common.{◌≡◌, Bool, true, false, cond, ◌||◌, List, [], ◌∷◌, ◌++◌, filter, sym, refl, ap, ◌∙◌}
use mathlib.Core.List.{foldl, foldl-append}
use Rattle.ticket.specs.declared.Ticket.{Ticket}
use Rattle.runs.specs.Setting.{Setting, visible}
use Rattle.runs.specs.Runs.{Run, fresh, reaction, after, run, outcome, every}
use Rattle.runs.specs.Laws.{AShadowIsTheBareRunOfWhatItsLevelSees}
use Rattle.runs.proofs.Lists.{way}

or_none : (a : Bool) → (a || false) ≡ a
or_none true = refl
or_none false = refl

module _ (w : Setting) where
  abbrev step : (Ticket → Bool) → Run → Ticket → Run
  step feeds r t = after r (reaction w (feeds t) r t)

  -- one ticket more
  pub run_last : (feeds : Ticket → Bool) (ts : List Ticket) (t : Ticket) → run w feeds (ts ++ (t ∷ [])) ≡ after (run w feeds ts) (outcome w feeds ts t)
  run_last feeds ts t = foldl-append (step feeds) fresh ts (t ∷ [])

  unfed : (r : Run) (t : Ticket) → after r (reaction w false r t) ≡ r
  unfed r t = let e = or_none r.stalled in λ i. record { words = r.words; stalled = e i }

  fed_from : (feeds : Ticket → Bool) (r : Run) (ts : List Ticket) → foldl (step feeds) r ts ≡ foldl (step every) r (filter feeds ts)
  fed_from feeds r [] = refl
  fed_from feeds r (t ∷ ts) =
      way (feeds t)
      (λ e.
      ap (λ b. foldl (step feeds) (after r (reaction w b r t)) ts) e
      ∙ fed_from feeds (step every r t) ts
      ∙ ap (λ b. foldl (step every) r (cond b (t ∷ filter feeds ts) (filter feeds ts))) (sym e))
      (λ e.
      ap (λ b. foldl (step feeds) (after r (reaction w b r t)) ts) e
      ∙ ap (λ r. foldl (step feeds) r ts) (unfed r t)
      ∙ fed_from feeds r ts
      ∙ ap (λ b. foldl (step every) r (cond b (t ∷ filter feeds ts) (filter feeds ts))) (sym e))

  pub a_shadow_is_the_bare_run_of_what_its_level_sees : AShadowIsTheBareRunOfWhatItsLevelSees w
  a_shadow_is_the_bare_run_of_what_its_level_sees =
      record {
        between_tickets = λ m ts. fed_from (visible w m) fresh ts;
        at_a_seen_ticket = λ m before t e.
            ap (λ b. reaction w b (run w (visible w m) before) t) e ∙ ap (λ r. reaction w true r t) (fed_from (visible w m) fresh before);
        at_a_hidden_ticket = λ m before t e. ap (λ b. reaction w b (run w (visible w m) before) t) e;
      }
