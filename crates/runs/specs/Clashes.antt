-- Where the bare run and a level's shadow part, and what is released of the bare run's tickets. Assumes nothing.
use Rattle.std.specs.Prelude.{ℕ, zero, suc, min, Bool, true, false, cond, not, ◌&&◌, ◌||◌, List, [], ◌∷◌, length, take, None, Option, ◌==◌}
use Rattle.std.specs.Option.{option_or}
use Rattle.std.specs.Bool.{then_some}
use Rattle.ticket.specs.declared.Ticket.{Ticket}
use Rattle.runs.specs.Setting.{Setting, visible, seen}
use Rattle.runs.specs.Runs.{bare, shadow}

abbrev pub same : Ticket → Ticket → Bool
same s t = s.channel == t.channel && s.value == t.value

-- the first list is a beginning of the second
abbrev pub begins : List Ticket → List Ticket → Bool
begins [] ys = true
begins (x ∷ xs) [] = false
begins (x ∷ xs) (y ∷ ys) = same x y && begins xs ys

-- a run that stalled or ended made xs, and another made ys: if both ended they clash where the lists differ; if one
-- stalled, where its list is no beginning of the other's; if both stalled, where neither is a beginning of the other
abbrev pub clash : Bool → List Ticket → Bool → List Ticket → Bool
clash false xs false ys = not (begins xs ys && begins ys xs)
clash true xs false ys = not (begins xs ys)
clash false xs true ys = not (begins ys xs)
clash true xs true ys = not (begins xs ys || begins ys xs)

-- level m clashes at a ticket behind a list, by what it sees of the bare run's tickets and of its shadow's
abbrev pub clashes : Setting → ℕ → List Ticket → Ticket → Bool
clashes w m before t =
    clash (bare w before t).stalled (seen w m (bare w before t).made) (shadow w m before t).stalled (seen w m (shadow w m before t).made)

pub data Kind : Type 0 where
  missing : Kind
  extra : Kind
  different : Kind

-- how a shadow parts from the bare run, and how many bare tickets stand before that
pub record Parting : Type 0 where
  pub kind : Kind
  pub place : ℕ

abbrev pub one_on : Parting → Parting
one_on p = record { kind = p.kind; place = suc p.place }

-- the first bare ticket that a level sees and its shadow, of which it sees ys, does not match: extra where the shadow ended;
-- where there is none, the shadow alone goes on, behind all bare tickets
abbrev pub parting : (Ticket → Bool) → List Ticket → List Ticket → Parting
parting sees [] ys = record { kind = missing; place = 0 }
parting sees (x ∷ xs) [] = cond (sees x) (record { kind = extra; place = 0 }) (one_on (parting sees xs []))
parting sees (x ∷ xs) (y ∷ ys) =
    cond (sees x) (cond (same x y) (one_on (parting sees xs ys)) (record { kind = different; place = 0 })) (one_on (parting sees xs (y ∷ ys)))

abbrev pub parting_at : Setting → ℕ → List Ticket → Ticket → Parting
parting_at w m before t = parting (visible w m) (bare w before t).made (seen w m (shadow w m before t).made)

-- the smallest level below n that passes a test
abbrev pub least_level : ℕ → (ℕ → Bool) → Option ℕ
least_level zero test = None
least_level (suc n) test = option_or (least_level n test) (then_some (test n) n)

-- the least of a number and of one for each level below n
abbrev pub least : ℕ → (ℕ → ℕ) → ℕ → ℕ
least zero f most = most
least (suc n) f most = min (least n f most) (f n)

-- the bare tickets up to the first that some level sees and its shadow does not match, without it
abbrev pub matched : Setting → List Ticket → Ticket → List Ticket
matched w before t =
    let made = (bare w before t).made in take (least w.levels (λ m. (parting_at w m before t).place) (length made)) made
