-- Appending one part after another. Assumes nothing.
use Rattle.std.proofs.Common.{◌≡◌, ℕ, true, List, [], ◌++◌, length, is_err, Ok, Err, vec_items, Result, Vec, sym, refl, ap, ◌∙◌, arith, length-append}
use Rattle.std.specs.declared.alloc.AllocError.{AllocError}
use Rattle.std.specs.declared.alloc.Global.{Global}
use Rattle.std.proofs.lemmas.List.{append-nil, append_assoc}
use Rattle.std.proofs.lemmas.Bool.{false≢true}
use Rattle.print.specs.Appending.{Appends, Appended}

module _ (old : Vec ℕ Global) (bytes left part rest : List ℕ) (e : left ≡ part ++ rest) (mid new : Vec ℕ Global) (sofar : Appended old bytes left mid) where
  pub appended_more : (u : Unit {0}) → Appends mid part (Ok u) new → Appended old bytes rest new
  appended_more u (items, room) = (
    sofar.0 ++ part,
    items ∙ ap (λ xs. xs ++ part) sofar.1 ∙ append_assoc (vec_items old) sofar.0 part,
    append_assoc sofar.0 part rest ∙ ap (λ xs. sofar.0 ++ xs) (sym e) ∙ sofar.2,
    omega (arith, sofar.3),
  )

  pub appended_short : (f : AllocError) (r : Result (Unit {0}) AllocError) → is_err r ≡ true → Appends mid part (Err f) new → Appends old bytes r new
  appended_short f (Ok u) is (room, more) = absurd (false≢true is)
  appended_short f (Err g) is (room, more) =
      let long = ap length sofar.2 in
      let here = ap length sofar.1 in (
        omega (arith, sofar.3, long, here, ap length e, length-append sofar.0 left, length-append part rest, length-append (vec_items old) sofar.0, old.ok.0, mid.ok.0),
        (sofar.0 ++ more.0, more.1 ∙ ap (λ xs. xs ++ more.0) sofar.1 ∙ append_assoc (vec_items old) sofar.0 more.0),
      )

pub appended_all : (old : Vec ℕ Global) (bytes part : List ℕ) (mid new : Vec ℕ Global) → Appended old bytes part mid → (r : Result (Unit {0}) AllocError) → Appends mid part r new → Appends old bytes r new
appended_all old bytes part mid new sofar (Ok u) (items, room) =
    (items ∙ ap (λ xs. xs ++ part) sofar.1 ∙ append_assoc (vec_items old) sofar.0 part ∙ ap (λ xs. vec_items old ++ xs) sofar.2, omega (arith, sofar.3))
appended_all old bytes part mid new sofar (Err f) short =
    appended_short old bytes part part [] (sym (append-nil part)) mid new sofar f (Err f) refl short

-- two parts one after the other
module _ (old : Vec ℕ Global) (bytes part rest : List ℕ) (e : bytes ≡ part ++ rest) where
  start : Appended old bytes bytes old
  start = ([], sym (append-nil (vec_items old)), refl, omega arith)

  pub appends_both : (mid new : Vec ℕ Global) (u : Unit {0}) (r : Result (Unit {0}) AllocError) → Appends old part (Ok u) mid → Appends mid rest r new → Appends old bytes r new
  appends_both mid new u r one more = appended_all old bytes rest mid new (appended_more old bytes bytes part rest e old mid start u one) r more

  pub appends_first : (new : Vec ℕ Global) (f : AllocError) (r : Result (Unit {0}) AllocError) → is_err r ≡ true → Appends old part (Err f) new → Appends old bytes r new
  appends_first new f r is short = appended_short old bytes bytes part rest e old new start f r is short
