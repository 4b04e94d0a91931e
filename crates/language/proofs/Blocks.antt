-- A run told by blocks is the iterated step of commands. Assumes nothing.
use Rattle.std.proofs.Common.{◌≡◌, ℕ, zero, suc, Bool, true, false, cond, eqb, ltb, List, [], ◌∷◌, ◌++◌, length, set, sym, refl, ap, ◌∙◌, ap₂}
use Rattle.ticket.specs.declared.Ticket.{Ticket}
use Rattle.language.specs.Expression.{Expr, value}
use Rattle.language.specs.Block as block
use Rattle.language.specs.Block.{Block, done, ◌⨟◌}
use Rattle.language.specs.Step.{Command, idle, skip, assign, output, sequence, branch, while, command, Action, silent, sends, before, step, is_busy, Ending, ended, stalled, act, iterate}
use Rattle.language.specs.Run.{run, after, spent}
use Rattle.language.specs.Laws.{RunIsIteratedStep}

-- a command, and then a block
abbrev flat : Command → Block → Block
flat idle k = k
flat skip k = block.skip k
flat (assign v e) k = block.assign v e k
flat (output c e) k = block.output c e k
flat (sequence a b) k = flat a (flat b k)
flat (branch e a b) k = block.branch true e (flat a done) (flat b done) k
flat (while e a) k = block.repeat e (flat a done) k

-- no sequence begins with nothing
abbrev Tidy : Command → Type 0
Tidy idle = Unit {0}
Tidy skip = Unit {0}
Tidy (assign v e) = Unit {0}
Tidy (output c e) = Unit {0}
Tidy (sequence a b) = (is_busy a ≡ true) × Tidy a × Tidy b
Tidy (branch e a b) = Tidy a × Tidy b
Tidy (while e a) = Tidy a

flat_before : (a b : Command) (k : Block) → flat (before a b) k ≡ flat a (flat b k)
flat_before idle b k = refl
flat_before skip b k = refl
flat_before (assign v e) b k = refl
flat_before (output c e) b k = refl
flat_before (sequence x y) b k = refl
flat_before (branch e x y) b k = refl
flat_before (while e x) b k = refl

tidy_before : (a b : Command) → Tidy a → Tidy b → Tidy (before a b)
tidy_before idle b p q = q
tidy_before skip b p q = (refl, p, q)
tidy_before (assign v e) b p q = (refl, p, q)
tidy_before (output c e) b p q = (refl, p, q)
tidy_before (sequence x y) b p q = (refl, p, q)
tidy_before (branch e x y) b p q = (refl, p, q)
tidy_before (while e x) b p q = (refl, p, q)

flat-⨟ : (c : Command) (j k : Block) → flat c j ⨟ k ≡ flat c (j ⨟ k)
flat-⨟ idle j k = refl
flat-⨟ skip j k = refl
flat-⨟ (assign v e) j k = refl
flat-⨟ (output c e) j k = refl
flat-⨟ (sequence x y) j k = flat-⨟ x (flat y j) k ∙ ap (flat x) (flat-⨟ y j k)
flat-⨟ (branch e x y) j k = refl
flat-⨟ (while e x) j k = refl

tidy_cond : (t : Bool) (a b : Command) → Tidy a → Tidy b → Tidy (cond t a b)
tidy_cond true a b p q = p
tidy_cond false a b p q = q

tidy_step : (x : ℕ) (s : List ℕ) (c : Command) → Tidy c → Tidy (step x s c).rest
tidy_step x s idle p = tt
tidy_step x s skip p = tt
tidy_step x s (assign v e) p = tt
tidy_step x s (output c e) p = tt
tidy_step x s (sequence a b) p = tidy_before (step x s a).rest b (tidy_step x s a p.1) p.2
tidy_step x s (branch e a b) p = tidy_cond (eqb (value x s e) 0) b a p.1 p.0
tidy_step x s (while e a) p = tidy_cond (eqb (value x s e) 0) idle (before a (while e a)) tt (tidy_before a (while e a) p p)

branch_flat : (t : Bool) (a b : Command) (k : Block) → cond t (flat b done) (flat a done) ⨟ k ≡ flat (cond t b a) k
branch_flat true a b k = flat-⨟ b done k
branch_flat false a b k = flat-⨟ a done k

while_flat : (t : Bool) (e : Expr) (a : Command) (k : Block) → cond t k (flat a done ⨟ block.repeat e (flat a done) k) ≡ flat (cond t idle (before a (while e a))) k
while_flat true e a k = refl
while_flat false e a k = flat-⨟ a done (block.repeat e (flat a done) k) ∙ sym (flat_before a (while e a) k)

-- both take the same step
step_flat : (x : ℕ) (go : List ℕ → List Ticket → Block → Ending) (n : ℕ) (s : List ℕ) (o : List Ticket) (c : Command) → is_busy c ≡ true → Tidy c → (k : Block) → after x go n s o (flat c k) ≡ act go n s o (step x s c).action (step x s c).store (flat (step x s c).rest k)
step_flat x go n s o idle h p k = cc
step_flat x go n s o skip h p k = refl
step_flat x go n s o (assign v e) h p k = refl
step_flat x go n s o (output c e) h p k = refl
step_flat x go n s o (sequence a b) h p k = step_flat x go n s o a p.0 p.1 (flat b k) ∙ ap (act go n s o (step x s a).action (step x s a).store) (sym (flat_before (step x s a).rest b k))
step_flat x go n s o (branch e a b) h p k = ap (go s o) (branch_flat (eqb (value x s e) 0) a b k)
step_flat x go n s o (while e a) h p k = ap (go s o) (while_flat (eqb (value x s e) 0) e a k)

spent_flat : (s : List ℕ) (o : List Ticket) (c : Command) → is_busy c ≡ true → Tidy c → (k : Block) → spent s o (flat c k) ≡ stalled 0 s o
spent_flat s o idle h p k = cc
spent_flat s o skip h p k = refl
spent_flat s o (assign v e) h p k = refl
spent_flat s o (output c e) h p k = refl
spent_flat s o (sequence a b) h p k = spent_flat s o a p.0 p.1 (flat b k)
spent_flat s o (branch e a b) h p k = refl
spent_flat s o (while e a) h p k = refl

act_same : (go : List ℕ → List Ticket → Command → Ending) (go' : List ℕ → List Ticket → Block → Ending) (n : ℕ) (s : List ℕ) (o : List Ticket) (a : Action) (s' : List ℕ) (c : Command) (p : Block) → ((o : List Ticket) → go s' o c ≡ go' s' o p) → act go n s o a s' c ≡ act go' n s o a s' p
act_same go go' n s o silent s' c p h = h o
act_same go go' n s o (sends t) s' c p h = ap (λ r. cond (ltb (length o) 16) r (stalled n s o)) (h (o ++ (t ∷ [])))

idle_is : (c : Command) → is_busy c ≡ false → c ≡ idle
idle_is idle h = refl
idle_is skip h = cc
idle_is (assign v e) h = cc
idle_is (output c e) h = cc
idle_is (sequence a b) h = cc
idle_is (branch e a b) h = cc
idle_is (while e a) h = cc

none_left : (s : List ℕ) (o : List Ticket) (c : Command) → Tidy c → (b : Bool) → is_busy c ≡ b → cond b (stalled 0 s o) (ended 0 s o) ≡ spent s o (flat c done)
none_left s o c p true h = sym (spent_flat s o c h p done)
none_left s o c p false h = ap (λ c. spent s o (flat c done)) (sym (idle_is c h))

some_left : (x n : ℕ) (s : List ℕ) (o : List Ticket) (c : Command) → Tidy c → ((s : List ℕ) (o : List Ticket) (c : Command) → Tidy c → iterate x n s o c ≡ run x n s o (flat c done)) → (b : Bool) → is_busy c ≡ b → cond b (act (iterate x n) (suc n) s o (step x s c).action (step x s c).store (step x s c).rest) (ended (suc n) s o) ≡ after x (run x n) (suc n) s o (flat c done)
some_left x n s o c p ih true h =
    act_same (iterate x n) (run x n) (suc n) s o (step x s c).action (step x s c).store (step x s c).rest (flat (step x s c).rest done) (λ o. ih (step x s c).store o (step x s c).rest (tidy_step x s c p))
    ∙ sym (step_flat x (run x n) (suc n) s o c h p done)
some_left x n s o c p ih false h = ap (λ c. after x (run x n) (suc n) s o (flat c done)) (sym (idle_is c h))

by_flat : (x n : ℕ) (s : List ℕ) (o : List Ticket) (c : Command) → Tidy c → iterate x n s o c ≡ run x n s o (flat c done)
by_flat x zero s o c p = none_left s o c p (is_busy c) refl
by_flat x (suc n) s o c p = some_left x n s o c p (by_flat x n) (is_busy c) refl

tidy_command : (p : Block) → Tidy (command p)
tidy_command done = tt
tidy_command (block.skip k) = (refl, tt, tidy_command k)
tidy_command (block.assign v e k) = (refl, tt, tidy_command k)
tidy_command (block.output c e k) = (refl, tt, tidy_command k)
tidy_command (block.branch w e a b k) = (refl, (tidy_command a, tidy_command b), tidy_command k)
tidy_command (block.repeat e a k) = (refl, tidy_command a, tidy_command k)

-- each second part written
abbrev plain : Block → Block
plain done = done
plain (block.skip k) = block.skip (plain k)
plain (block.assign v e k) = block.assign v e (plain k)
plain (block.output c e k) = block.output c e (plain k)
plain (block.branch w e p q k) = block.branch true e (plain p) (plain q) (plain k)
plain (block.repeat e p k) = block.repeat e (plain p) (plain k)

flat_command : (b : Block) → flat (command b) done ≡ plain b
flat_command done = refl
flat_command (block.skip k) = ap block.skip (flat_command k)
flat_command (block.assign v e k) = ap (block.assign v e) (flat_command k)
flat_command (block.output c e k) = ap (block.output c e) (flat_command k)
flat_command (block.branch w e p q k) =
    let x = flat_command p in
    let y = flat_command q in
    let z = flat_command k in
    cc
flat_command (block.repeat e p k) = ap₂ (block.repeat e) (flat_command p) (flat_command k)

plain-⨟ : (b k : Block) → plain (b ⨟ k) ≡ plain b ⨟ plain k
plain-⨟ done k = refl
plain-⨟ (block.skip b) k = ap block.skip (plain-⨟ b k)
plain-⨟ (block.assign v e b) k = ap (block.assign v e) (plain-⨟ b k)
plain-⨟ (block.output c e b) k = ap (block.output c e) (plain-⨟ b k)
plain-⨟ (block.branch w e p q b) k = ap (block.branch true e (plain p) (plain q)) (plain-⨟ b k)
plain-⨟ (block.repeat e p b) k = ap (block.repeat e (plain p)) (plain-⨟ b k)

plain_branch : (t : Bool) (p q k : Block) → cond t (plain q) (plain p) ⨟ plain k ≡ plain (cond t q p ⨟ k)
plain_branch true p q k = sym (plain-⨟ q k)
plain_branch false p q k = sym (plain-⨟ p k)

plain_repeat : (t : Bool) (e : Expr) (p k : Block) → cond t (plain k) (plain p ⨟ block.repeat e (plain p) (plain k)) ≡ plain (cond t k (p ⨟ block.repeat e p k))
plain_repeat true e p k = refl
plain_repeat false e p k = sym (plain-⨟ p (block.repeat e p k))

-- whether a second part is written or left out makes no difference to a run
run_plain : (x n : ℕ) (s : List ℕ) (o : List Ticket) (b : Block) → run x n s o (plain b) ≡ run x n s o b
run_plain x zero s o done = refl
run_plain x zero s o (block.skip k) = refl
run_plain x zero s o (block.assign v e k) = refl
run_plain x zero s o (block.output c e k) = refl
run_plain x zero s o (block.branch w e p q k) = refl
run_plain x zero s o (block.repeat e p k) = refl
run_plain x (suc n) s o done = refl
run_plain x (suc n) s o (block.skip k) = run_plain x n s o k
run_plain x (suc n) s o (block.assign v e k) = run_plain x n (set s v (value x s e)) o k
run_plain x (suc n) s o (block.output c e k) =
    ap (λ r. cond (ltb (length o) 16) r (stalled (suc n) s o)) (run_plain x n s (o ++ record { channel = c; value = value x s e } ∷ []) k)
run_plain x (suc n) s o (block.branch w e p q k) =
    ap (run x n s o) (plain_branch (eqb (value x s e) 0) p q k) ∙ run_plain x n s o (cond (eqb (value x s e) 0) q p ⨟ k)
run_plain x (suc n) s o (block.repeat e p k) =
    ap (run x n s o) (plain_repeat (eqb (value x s e) 0) e p k) ∙ run_plain x n s o (cond (eqb (value x s e) 0) k (p ⨟ block.repeat e p k))

pub run_is_iterated_step : RunIsIteratedStep
run_is_iterated_step x n s o b = by_flat x n s o (command b) (tidy_command b) ∙ ap (run x n s o) (flat_command b) ∙ run_plain x n s o b

pub run_done : (x n : ℕ) (s : List ℕ) (o : List Ticket) → run x n s o done ≡ ended n s o
run_done x zero s o = refl
run_done x (suc n) s o = refl

pub ⨟-done : (b : Block) → b ⨟ done ≡ b
⨟-done done = refl
⨟-done (block.skip k) = ap block.skip (⨟-done k)
⨟-done (block.assign v e k) = ap (block.assign v e) (⨟-done k)
⨟-done (block.output c e k) = ap (block.output c e) (⨟-done k)
⨟-done (block.branch w e p q k) = ap (block.branch w e p q) (⨟-done k)
⨟-done (block.repeat e p k) = ap (block.repeat e p) (⨟-done k)
