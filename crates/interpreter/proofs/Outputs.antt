-- Programs whose outputs go to out channels make out-tickets only, and sound tables are such programs. Assumes nothing.
use Rattle.std.proofs.Common.{ℕ, zero, suc, ◌<◌, ◌≤◌, Bool, true, false, cond, eqb, ltb, List, [], ◌∷◌, ◌++◌, length, get_or, set, sym, subst}
use Rattle.std.specs.List.{AllByRecursion}
use Rattle.std.proofs.ByRecursion.{All-from_get_or, All-push}
use Rattle.ticket.specs.declared.Ticket.{Ticket}
use Rattle.machine.specs.Meaning.{Out}
use Rattle.language.specs.Block.{Block, done, skip, assign, output, branch, repeat, ◌⨟◌, Tree, handler_of}
use Rattle.language.specs.Expression.{Expr, value}
use Rattle.language.specs.Run.{run}
use Rattle.language.specs.Step.{command, Ending, ended, stalled, iterate, outcome}
use Rattle.language.proofs.Blocks.{run_is_iterated_step}
use Rattle.language.proofs.Stalls.{reaction_few}
use Rattle.program.specs.declared.rows.Kind.{Kind}
use Rattle.program.specs.declared.rows.Kind.TheVariants as kind
use Rattle.program.specs.declared.rows.Row.{Row}
use Rattle.program.specs.declared.rows.Term.{Term}
use Rattle.program.specs.Building.{blank_row, lines_from}
use Rattle.program.specs.Trees.{Frame, whole, parted, prefixed, halved, branched, repeated, around, framed, frames, here, handled, tree_of}
use Rattle.interpreter.specs.Laws.{OutwardIsLawful, SoundIsLawful}
use Rattle.interpreter.specs.Outward.{Outward, OutwardTree}
use Rattle.interpreter.specs.Places.{expression_at}
use Rattle.interpreter.specs.Sound.{SoundRow, Sound}

outward-⨟ : (b k : Block) → Outward b → Outward k → Outward (b ⨟ k)
outward-⨟ done k h j = j
outward-⨟ (skip b) k h j = outward-⨟ b k h j
outward-⨟ (assign v e b) k h j = outward-⨟ b k h j
outward-⨟ (output c e b) k h j = (h.0, h.1, outward-⨟ b k h.2 j)
outward-⨟ (branch w e p q b) k h j = (h.0, h.1, outward-⨟ b k h.2 j)
outward-⨟ (repeat e p b) k h j = (h.0, outward-⨟ b k h.1 j)

outward_cond : (t : Bool) (a b : Block) → Outward a → Outward b → Outward (cond t a b)
outward_cond true a b h j = h
outward_cond false a b h j = j

-- the tickets that a run has made are out-tickets
abbrev MadeOut : Ending → Type 0
MadeOut (ended n s o) = AllByRecursion Out o
MadeOut (stalled n s o) = AllByRecursion Out o

made_cond : (t : Bool) (a b : Ending) → MadeOut a → MadeOut b → MadeOut (cond t a b)
made_cond true a b h j = h
made_cond false a b h j = j

run_outward : (x n : ℕ) (s : List ℕ) (o : List Ticket) (b : Block) → Outward b → AllByRecursion Out o → MadeOut (run x n s o b)
run_outward x zero s o done h a = a
run_outward x zero s o (skip k) h a = a
run_outward x zero s o (assign v e k) h a = a
run_outward x zero s o (output c e k) h a = a
run_outward x zero s o (branch w e p q k) h a = a
run_outward x zero s o (repeat e p k) h a = a
run_outward x (suc n) s o done h a = a
run_outward x (suc n) s o (skip k) h a = run_outward x n s o k h a
run_outward x (suc n) s o (assign v e k) h a = run_outward x n (set s v (value x s e)) o k h a
run_outward x (suc n) s o (output c e k) h a =
    let t : Ticket = record { channel = c; value = value x s e } in
    made_cond (ltb (length o) 16) (run x n s (o ++ t ∷ []) k) (stalled (suc n) s o) (run_outward x n s (o ++ t ∷ []) k h.2 (All-push Out o t a (h.0, h.1))) a
run_outward x (suc n) s o (branch w e p q k) h a =
    let t = eqb (value x s e) 0 in
    run_outward x n s o (cond t q p ⨟ k) (outward-⨟ (cond t q p) k (outward_cond t q p h.1 h.0) h.2) a
run_outward x (suc n) s o (repeat e p k) h a =
    let t = eqb (value x s e) 0 in
    run_outward x n s o (cond t k (p ⨟ repeat e p k)) (outward_cond t k (p ⨟ repeat e p k) h.1 (outward-⨟ p (repeat e p k) h.0 h)) a

handler_outward : (p : Tree) (c : ℕ) → OutwardTree p → Outward (handler_of p c)
handler_outward [] c h = tt
handler_outward (g ∷ p) c h = outward_cond (eqb g.channel c) g.body (handler_of p c) h.0 (handler_outward p c h.1)

made_out : (n : ℕ) (r : Ending) → MadeOut r → AllByRecursion Out (outcome n r).made
made_out n (ended l s o) h = h
made_out n (stalled l s o) h = h

pub outward_is_lawful : OutwardIsLawful
outward_is_lawful p h =
    record {
      few = reaction_few p;
      outward = λ words t n.
          let b = handler_of p t.channel in
          made_out n (iterate t.value n words [] (command b)) (subst MadeOut (sym (run_is_iterated_step t.value n words [] b)) (run_outward t.value n words [] b (handler_outward p t.channel h) tt));
    }

-- a row's output has an out channel
abbrev OutKind : Kind → Type 0
OutKind kind.Skip = Unit {0}
OutKind (kind.Handler c) = Unit {0}
OutKind (kind.Assign v) = Unit {0}
OutKind (kind.Output c) = (16 ≤ c) × (c < 32)
OutKind kind.If = Unit {0}
OutKind kind.While = Unit {0}
OutKind kind.Else = Unit {0}
OutKind kind.Close = Unit {0}

abbrev OutwardFrame : Frame → Type 0
OutwardFrame (whole b) = Outward b
OutwardFrame (parted a b) = Outward a × Outward b

prefixed_outward : (f : Block → Block) (fs : List Frame) → ((b : Block) → Outward b → Outward (f b)) → AllByRecursion OutwardFrame fs → AllByRecursion OutwardFrame (prefixed f fs)
prefixed_outward f [] g h = tt
prefixed_outward f (whole b ∷ fs) g h = (g b h.0, h.1)
prefixed_outward f (parted a b ∷ fs) g h = ((g a h.0.0, h.0.1), h.1)

halved_outward : (fs : List Frame) → AllByRecursion OutwardFrame fs → AllByRecursion OutwardFrame (halved fs)
halved_outward [] h = tt
halved_outward (whole b ∷ fs) h = ((tt, h.0), h.1)
halved_outward (parted a b ∷ fs) h = tt

around_outward : (fs : List Frame) → AllByRecursion OutwardFrame fs → AllByRecursion OutwardFrame (around fs)
around_outward [] h = tt
around_outward (f ∷ fs) h = h.1

branched_outward : (e : Expr) (fs : List Frame) → AllByRecursion OutwardFrame fs → AllByRecursion OutwardFrame (branched e fs)
branched_outward e [] h = tt
branched_outward e (whole b ∷ fs) h = prefixed_outward (branch false e b done) fs (λ k j. (h.0, tt, j)) h.1
branched_outward e (parted a b ∷ fs) h = prefixed_outward (branch true e a b) fs (λ k j. (h.0.0, h.0.1, j)) h.1

repeated_outward : (e : Expr) (fs : List Frame) → AllByRecursion OutwardFrame fs → AllByRecursion OutwardFrame (repeated e fs)
repeated_outward e [] h = tt
repeated_outward e (whole b ∷ fs) h = prefixed_outward (repeat e b) fs (λ k j. (h.0, j)) h.1
repeated_outward e (parted a b ∷ fs) h = tt

framed_outward : (c : Kind) (e : Expr) (fs : List Frame) → OutKind c → AllByRecursion OutwardFrame fs → AllByRecursion OutwardFrame (framed c e fs)
framed_outward kind.Skip e fs o h = prefixed_outward skip fs (λ b j. j) h
framed_outward (kind.Handler c) e fs o h = around_outward fs h
framed_outward (kind.Assign v) e fs o h = prefixed_outward (assign v e) fs (λ b j. j) h
framed_outward (kind.Output c) e fs o h = prefixed_outward (output c e) fs (λ b j. (o.0, o.1, j)) h
framed_outward kind.If e fs o h = branched_outward e fs h
framed_outward kind.While e fs o h = repeated_outward e fs h
framed_outward kind.Else e fs o h = halved_outward fs h
framed_outward kind.Close e fs o h = (tt, h)

here_outward : (fs : List Frame) → AllByRecursion OutwardFrame fs → Outward (here fs)
here_outward [] h = tt
here_outward (whole b ∷ fs) h = h.0
here_outward (parted a b ∷ fs) h = h.0.0

handled_outward : (c : Kind) (b : Block) (p : Tree) → Outward b → OutwardTree p → OutwardTree (handled c b p)
handled_outward kind.Skip b p o h = h
handled_outward (kind.Handler c) b p o h = (o, h)
handled_outward (kind.Assign v) b p o h = h
handled_outward (kind.Output c) b p o h = h
handled_outward kind.If b p o h = h
handled_outward kind.While b p o h = h
handled_outward kind.Else b p o h = h
handled_outward kind.Close b p o h = h

abbrev OutRow : Row → Type 0
OutRow r = OutKind r.kind

frames_outward : (rows : List Row) (terms : List Term) → AllByRecursion OutRow rows → AllByRecursion OutwardFrame (frames (lines_from rows terms))
frames_outward [] terms h = tt
frames_outward (r ∷ rs) terms h = framed_outward r.kind (expression_at terms r) (frames (lines_from rs terms)) h.0 (frames_outward rs terms h.1)

tree_outward : (rows : List Row) (terms : List Term) → AllByRecursion OutRow rows → OutwardTree (tree_of rows terms)
tree_outward [] terms h = tt
tree_outward (r ∷ rs) terms h =
    let fs = frames (lines_from rs terms) in
    handled_outward r.kind (here fs) (tree_of rs terms) (here_outward fs (frames_outward rs terms h.1)) (tree_outward rs terms h.1)

sound_kind : (rows : List Row) (terms : List Term) (i : ℕ) (r : Row) (c : Kind) → SoundRow rows terms i r c → OutKind c
sound_kind rows terms i r kind.Skip h = tt
sound_kind rows terms i r (kind.Handler c) h = tt
sound_kind rows terms i r (kind.Assign v) h = tt
sound_kind rows terms i r (kind.Output c) h = (h.0, h.1)
sound_kind rows terms i r kind.If h = tt
sound_kind rows terms i r kind.While h = tt
sound_kind rows terms i r kind.Else h = tt
sound_kind rows terms i r kind.Close h = tt

pub sound_is_outward : (rows : List Row) (terms : List Term) → Sound rows terms → OutwardTree (tree_of rows terms)
sound_is_outward rows terms sound =
    tree_outward rows terms (All-from_get_or OutRow rows blank_row (λ i h. sound_kind rows terms i (get_or rows i blank_row) (get_or rows i blank_row).kind (sound i h)))

-- what the machine's trait asks of the meaning of sound tables
pub sound_is_lawful : SoundIsLawful
sound_is_lawful rows terms sound = outward_is_lawful (tree_of rows terms) (sound_is_outward rows terms sound)
