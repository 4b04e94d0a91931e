-- What is released of the tickets that the bare run makes. Assumes nothing.
use Rattle.std.proofs.Common.{◌≡◌, ℕ, ◌<◌, ◌≤◌, List, ◌++◌, length, take, drop, sym, refl, ap, ◌∙◌, subst, arith, length-append, take-append-drop, take_all, take-take, take_at}
use Rattle.ticket.specs.declared.Ticket.{Ticket}
use Rattle.runs.specs.Setting.{Setting, visible, seen}
use Rattle.runs.specs.Runs.{bare, shadow}
use Rattle.runs.specs.Clashes.{parting_at, least, matched}
use Rattle.runs.specs.Lists.{Beginning}
use Rattle.runs.specs.Laws.{LongestMatched}
use Rattle.runs.proofs.Levels.{least_at, at_most_least}
use Rattle.runs.proofs.Partings.{same_from_calm, matched_to_place, place_is_last}
use Rattle.runs.proofs.Lists.{begin_same}
use Rattle.runs.proofs.Verdicts.{Calm}

take_begins : {X : Type 0} (n k : ℕ) (xs : List X) → n ≤ k → Beginning (take n xs) (take k xs)
take_begins n k xs l =
    record { rest = drop n (take k xs); joins = ap (λ f. f ++ drop n (take k xs)) (sym (take-take n k xs l)) ∙ take-append-drop n (take k xs) }

beginning_is_take : {X : Type 0} (xs ys : List X) → Beginning xs ys → xs ≡ take (length xs) ys
beginning_is_take xs ys b = sym (take_at xs b.rest (length xs) refl) ∙ ap (take (length xs)) b.joins

pub beginning_is_short : {X : Type 0} (xs ys : List X) → Beginning xs ys → length xs ≤ length ys
beginning_is_short xs ys b = omega (arith, length-append xs b.rest, ap length b.joins)

module _ (w : Setting) (before : List Ticket) (t : Ticket) where
  abbrev made : List Ticket
  made = (bare w before t).made

  abbrev place : ℕ → ℕ
  place m = (parting_at w m before t).place

  -- at a ticket that brings nothing the level sees the same of both runs
  pub same_views : Calm w before t → (m : ℕ) → m < w.levels → seen w m made ≡ seen w m (shadow w m before t).made
  same_views c m l =
      same_from_calm (bare w before t).stalled (seen w m made) (shadow w m before t).stalled (seen w m (shadow w m before t).made)
      c.bare_ends (c.shadows_end m l) (c.no_clash m l)

  pub matched_is_longest : LongestMatched w before t (matched w before t)
  matched_is_longest =
      record {
        beginning = record { rest = drop (least w.levels place (length made)) made; joins = take-append-drop (least w.levels place (length made)) made };
        matched = λ m l. matched_to_place (visible w m) (least w.levels place (length made)) made (seen w m (shadow w m before t).made) (least_at w.levels place (length made) m l);
        longest = λ ts b f.
            let short = beginning_is_short ts made b in
            let is = beginning_is_take ts made b in
            let within : (m : ℕ) → m < w.levels → length ts ≤ place m =
            λ m l. place_is_last (visible w m) (length ts) made (seen w m (shadow w m before t).made) short
            (subst (λ (l : List Ticket). Beginning (seen w m l) (seen w m (shadow w m before t).made)) is (f m l)) in
            subst (λ (l : List Ticket). Beginning l (matched w before t)) (sym is)
            (take_begins (length ts) (least w.levels place (length made)) made (at_most_least w.levels place (length made) (length ts) short within));
      }

  -- then all is released
  pub all_matched : Calm w before t → matched w before t ≡ made
  all_matched c =
      let within : (m : ℕ) → m < w.levels → length made ≤ place m =
      λ m l. place_is_last (visible w m) (length made) made (seen w m (shadow w m before t).made) (omega arith)
      (begin_same (ap (seen w m) (take_all (length made) made (omega arith)) ∙ same_views c m l)) in
      take_all (least w.levels place (length made)) made (at_most_least w.levels place (length made) (length made) (omega arith) within)
