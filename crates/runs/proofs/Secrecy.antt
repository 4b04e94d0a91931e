-- What is released to a level is a beginning of what its shadow makes, and that is worked out from what the level sees. Assumes nothing.
use Rattle.std.proofs.Common.{◌≡◌, ℕ, ◌<◌, Bool, true, false, cond, List, [], ◌∷◌, ◌++◌, Ok, Err, Result, sym, refl, ap, ◌∙◌, subst, ap₂, append-nil}
use Rattle.std.proofs.lemmas.List.Elements.{filter-append}
use Rattle.fault.specs.declared.Fault.{Fault}
use Rattle.fault.specs.declared.Reason.TheVariants as reason
use Rattle.fault.specs.Faults.{unplaced}
use Rattle.ticket.specs.declared.Ticket.{Ticket}
use Rattle.runs.specs.Setting.{Setting, visible, seen}
use Rattle.runs.specs.Calls.{Call, hand_in, ask_state, ticket_in, accepted, proper_ticket, proper_tickets}
use Rattle.runs.specs.Runs.{bare, shadow}
use Rattle.runs.specs.Clashes.{matched}
use Rattle.runs.specs.States.{state_after, is_running}
use Rattle.runs.specs.Replies.{taking, refusal, reply_to, reply, all_released}
use Rattle.runs.specs.Lists.{Beginning, along, joined}
use Rattle.runs.specs.Promises.{AgreeingListsReleasePrefixes}
use Rattle.runs.proofs.Lists.{way, begin_same, begin_more, begin_behind, comparable, by_the_last, gathered_last}
use Rattle.runs.proofs.Releases.{same_views, all_matched, matched_is_longest}
use Rattle.runs.proofs.Replies.{proper_append}
use Rattle.runs.proofs.Runs.{a_shadow_is_the_bare_run_of_what_its_level_sees}
use Rattle.runs.proofs.Verdicts.{RunsOn, running_last}

module _ (w : Setting) where
  -- over proper tickets: what is released at each, and in all
  abbrev release : List Ticket → Ticket → List Ticket
  release before t = cond (is_running (state_after w before)) (matched w before t) []

  abbrev releases : List Ticket → List Ticket
  releases ts = joined (along release ts)

  taken_release : (b : Bool) (h : List Ticket) (t : Ticket) (slip : List Ticket)
      → (cond b (taking w h t slip) (refusal (unplaced reason.Halted) slip)).released ≡ cond b (matched w h t) []
  taken_release true h t slip = refl
  taken_release false h t slip = refl

  one_release : (h slip : List Ticket) (r : Result Ticket Fault) → releases h ++ (reply_to w h slip r).released ≡ releases (h ++ accepted r)
  one_release h slip (Ok t) =
      ap (λ l. releases h ++ l) (taken_release (is_running (state_after w h)) h t slip) ∙ sym (gathered_last release h t)
  one_release h slip (Err f) = append-nil (releases h) ∙ ap releases (sym (append-nil h))

  one_reply : (before : List Call) (c : Call) → releases (proper_tickets before) ++ (reply w before c).released ≡ releases (proper_tickets before ++ proper_ticket c)
  one_reply before (hand_in bytes slip) = one_release (proper_tickets before) slip (ticket_in bytes slip)
  one_reply before ask_state = append-nil (releases (proper_tickets before)) ∙ ap releases (sym (append-nil (proper_tickets before)))

  pub released_is : (calls : List Call) → all_released w calls ≡ releases (proper_tickets calls)
  released_is =
      by_the_last (λ calls. all_released w calls ≡ releases (proper_tickets calls)) refl
      (λ before c e.
      gathered_last (λ before c. (reply w before c).released) before c
      ∙ ap (λ l. l ++ (reply w before c).released) e
      ∙ one_reply before c
      ∙ ap releases (ap (λ l. proper_tickets before ++ l) (sym (append-nil (proper_ticket c))) ∙ sym (proper_append before (c ∷ []))))

  module _ (m : ℕ) where
    -- what the level sees of what its shadow makes of a list
    abbrev shadow_makes : List Ticket → List Ticket
    shadow_makes ts = joined (along (λ before t. seen w m (shadow w m before t).made) ts)

    abbrev bare_makes : List Ticket → List Ticket
    bare_makes ts = joined (along (λ before t. seen w m (bare w before t).made) ts)

    seen_last : (ts : List Ticket) (t : Ticket) → seen w m (ts ++ (t ∷ [])) ≡ seen w m ts ++ cond (visible w m t) (t ∷ []) []
    seen_last ts t = filter-append (visible w m) ts (t ∷ [])

    -- it is worked out from what the level sees of the list
    shadow_makes_seen : (ts : List Ticket) → shadow_makes ts ≡ bare_makes (seen w m ts)
    shadow_makes_seen =
        let law = a_shadow_is_the_bare_run_of_what_its_level_sees w in
        by_the_last (λ ts. shadow_makes ts ≡ bare_makes (seen w m ts)) refl
        (λ ts t e.
        gathered_last (λ before t. seen w m (shadow w m before t).made) ts t
        ∙ way (visible w m t)
        (λ v.
        ap₂ ◌++◌ e (ap (λ o. seen w m o.made) (law.at_a_seen_ticket m ts t v))
        ∙ sym (gathered_last (λ before t. seen w m (bare w before t).made) (seen w m ts) t)
        ∙ ap (λ b. bare_makes (seen w m ts ++ cond b (t ∷ []) [])) (sym v)
        ∙ ap bare_makes (sym (seen_last ts t)))
        (λ v.
        ap₂ ◌++◌ e (ap (λ o. seen w m o.made) (law.at_a_hidden_ticket m ts t v))
        ∙ append-nil (bare_makes (seen w m ts))
        ∙ ap bare_makes (sym (append-nil (seen w m ts)))
        ∙ ap (λ b. bare_makes (seen w m ts ++ cond b (t ∷ []) [])) (sym v)
        ∙ ap bare_makes (sym (seen_last ts t))))

    seen_releases_last : (ts : List Ticket) (t : Ticket) → seen w m (releases (ts ++ (t ∷ []))) ≡ seen w m (releases ts) ++ seen w m (release ts t)
    seen_releases_last ts t = ap (seen w m) (gathered_last release ts t) ∙ filter-append (visible w m) (releases ts) (release ts t)

    module _ (l : m < w.levels) where
      -- while the monitor runs, the level is released all that its shadow makes
      whole : (ts : List Ticket) → RunsOn w ts → seen w m (releases ts) ≡ shadow_makes ts
      whole =
          by_the_last (λ ts. RunsOn w ts → seen w m (releases ts) ≡ shadow_makes ts) (λ e. refl)
          (λ ts t before e.
          let p = running_last w ts t e in
          seen_releases_last ts t
          ∙ ap₂ ◌++◌ (before p.0)
          (ap (λ b. seen w m (cond b (matched w ts t) [])) p.0 ∙ ap (seen w m) (all_matched w ts t p.1) ∙ same_views w ts t p.1 m l)
          ∙ sym (gathered_last (λ before t. seen w m (shadow w m before t).made) ts t))

      -- and always a beginning of that
      pub releases_begin : (ts : List Ticket) → Beginning (seen w m (releases ts)) (shadow_makes ts)
      releases_begin =
          by_the_last (λ ts. Beginning (seen w m (releases ts)) (shadow_makes ts)) (begin_same refl)
          (λ ts t b.
          rw (seen_releases_last ts t, gathered_last (λ before t. seen w m (shadow w m before t).made) ts t)
          (way (is_running (state_after w ts))
          (λ e. rw (e, whole ts e) (begin_behind (shadow_makes ts) ((matched_is_longest w ts t).matched m l)))
          (λ e. rw (e, append-nil (seen w m (releases ts))) (begin_more (seen w m (shadow w m ts t).made) b))))

  pub agreeing_lists_release_prefixes : AgreeingListsReleasePrefixes w
  agreeing_lists_release_prefixes m l cs ds e =
      let f : shadow_makes m (proper_tickets cs) ≡ shadow_makes m (proper_tickets ds) =
      shadow_makes_seen m (proper_tickets cs) ∙ ap (bare_makes m) e ∙ sym (shadow_makes_seen m (proper_tickets ds)) in
      rw (released_is cs, released_is ds)
      (comparable (seen w m (releases (proper_tickets cs))) (seen w m (releases (proper_tickets ds))) (shadow_makes m (proper_tickets ds))
      (subst (Beginning (seen w m (releases (proper_tickets cs)))) f (releases_begin m l (proper_tickets cs)))
      (releases_begin m l (proper_tickets ds)))
