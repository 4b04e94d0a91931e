-- The run of a site program: a command's next step, and steps one after the other while the allowance lasts. Assumes nothing.
use Rattle.std.specs.Prelude.{ℕ, zero, suc, ◌-◌, Bool, true, false, cond, List, [], ◌∷◌, ◌++◌, length, ◌==◌, nat_lt, slice_set}
use Rattle.machine.specs.Meaning.{Outcome, Meaning}
use Rattle.ticket.specs.declared.Ticket.{Ticket}
use Rattle.language.specs.Expression.{Expr, value}
use Rattle.language.specs.Block as block
use Rattle.language.specs.Block.{Block, Tree, handler_of}

pub data Command : Type 0 where
  idle : Command
  skip : Command
  assign : ℕ → Expr → Command
  output : ℕ → Expr → Command
  sequence : Command → Command → Command
  branch : Expr → Command → Command → Command
  while : Expr → Command → Command

-- the command of a block
abbrev pub command : Block → Command
command block.done = idle
command (block.skip k) = sequence skip (command k)
command (block.assign v e k) = sequence (assign v e) (command k)
command (block.output c e k) = sequence (output c e) (command k)
command (block.branch w e p q k) = sequence (branch e (command p) (command q)) (command k)
command (block.repeat e p k) = sequence (while e (command p)) (command k)

-- what a step shows
pub data Action : Type 0 where
  silent : Action
  sends : Ticket → Action

pub record Next : Type 0 where
  pub action : Action
  pub store : List ℕ
  pub rest : Command

-- a command before another; of one that is idle nothing is left
abbrev pub before : Command → Command → Command
before idle d = d
before skip d = sequence skip d
before (assign v e) d = sequence (assign v e) d
before (output c e) d = sequence (output c e) d
before (sequence a b) d = sequence (sequence a b) d
before (branch e a b) d = sequence (branch e a b) d
before (while e a) d = sequence (while e a) d

abbrev pub step : ℕ → List ℕ → Command → Next
step x s idle = record { action = silent; store = s; rest = idle }
step x s skip = record { action = silent; store = s; rest = idle }
step x s (assign v e) = record { action = silent; store = slice_set s v (value x s e); rest = idle }
step x s (output c e) = record { action = sends (record { channel = c; value = value x s e }); store = s; rest = idle }
step x s (branch e a b) = record { action = silent; store = s; rest = cond (value x s e == 0) b a }
step x s (while e a) = record { action = silent; store = s; rest = cond (value x s e == 0) idle (before a (while e a)) }
step x s (sequence a b) = record { action = (step x s a).action; store = (step x s a).store; rest = before (step x s a).rest b }

abbrev pub is_busy : Command → Bool
is_busy idle = false
is_busy skip = true
is_busy (assign v e) = true
is_busy (output c e) = true
is_busy (sequence a b) = true
is_busy (branch e a b) = true
is_busy (while e a) = true

-- how a run ends: the steps left, the store and the tickets made
pub data Ending : Type 0 where
  ended : ℕ → List ℕ → List Ticket → Ending
  stalled : ℕ → List ℕ → List Ticket → Ending

-- a step's ticket is made where there are fewer than sixteen; a seventeenth stalls the run before the step
abbrev pub act : {X : Type 0} → (List ℕ → List Ticket → X → Ending) → ℕ → List ℕ → List Ticket → Action → List ℕ → X → Ending
act go n s o silent s' rest = go s' o rest
act go n s o (sends t) s' rest = cond (nat_lt (length o) 16) (go s' (o ++ t ∷ []) rest) (stalled n s o)

-- step after step with n left; a run that is not at its end when none is left stalls
abbrev pub iterate : ℕ → ℕ → List ℕ → List Ticket → Command → Ending
iterate x zero s o c = cond (is_busy c) (stalled zero s o) (ended zero s o)
iterate x (suc n) s o c =
    cond (is_busy c) (act (iterate x n) (suc n) s o (step x s c).action (step x s c).store (step x s c).rest) (ended (suc n) s o)

abbrev pub outcome : ℕ → Ending → Outcome
outcome n (ended left s o) = record { made = o; steps = n - left; stalled = false; words = s }
outcome n (stalled left s o) = record { made = o; steps = n - left; stalled = true; words = s }

-- what a site program means as a machine
abbrev pub reaction : Tree → Meaning
reaction p words t n = outcome n (iterate t.value n words [] (command (handler_of p t.channel)))
