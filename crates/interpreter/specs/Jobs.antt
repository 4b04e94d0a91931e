-- What a reaction under way stands for, and what every part of it keeps. Assumes nothing.
use Rattle.std.specs.Prelude.{◌≡◌, ℕ, zero, suc, ◌-◌, ◌≤◌, List, take, drop, Ok, Err, Result}
use Rattle.ticket.specs.declared.Ticket.{Ticket}
use Rattle.language.specs.Block.{Block}
use Rattle.language.specs.Expression.{Expr, value}
use Rattle.language.specs.Run.{run}
use Rattle.language.specs.Step.{Ending, stalled}
use Rattle.interpreter.specs.declared.job.Job.{Job}
use Rattle.interpreter.specs.declared.job.Stalled.{Stalled}

abbrev pub tickets : Job → List Ticket
tickets j = take j.made j.slip

-- what an expression is worth in it
abbrev pub worth : Job → Expr → ℕ
worth j e = value j.input j.words e

-- how it ends if it is to run a block
abbrev pub start : Job → Block → Ending
start j b = run j.input j.left j.words (tickets j) b

-- how it ends after a part: with k still to run, or stalled already
abbrev pub resume : Result (Unit {0}) Stalled → Job → Block → Ending
resume (Ok u) j k = start j k
resume (Err e) j k = stalled j.left j.words (tickets j)

-- whether a step is due where n are left
abbrev pub due : ℕ → Result (Unit {0}) Stalled
due zero = Err (record {})
due (suc n) = Ok tt

-- with a step less
abbrev pub spent : Job → Job
spent j = record { words = j.words; slip = j.slip; made = j.made; left = j.left - 1; input = j.input; room = j.room }

-- a part takes steps and adds tickets, and leaves the slip beyond them as it was
pub record Keeps (j j' : Job) : Type 0 where
  pub fewer_steps : j'.left ≤ j.left
  pub more_tickets : j.made ≤ j'.made
  pub beyond : drop j'.made j'.slip ≡ drop j'.made j.slip

-- a part of a reaction, whatever k follows it: it ended, or the reaction stalled in it
pub record Runs (j : Job) (part : Block → Block) (ended : Result (Unit {0}) Stalled) (j' : Job) : Type 0 where
  pub keeps : Keeps j j'
  pub as_told : (k : Block) → start j (part k) ≡ resume ended j' k

-- a part of a reaction that is under way: what is left of it
pub record Reaches (j : Job) (part : Block → Block) (j' : Job) (rest : Block → Block) : Type 0 where
  pub keeps : Keeps j j'
  pub as_told : (k : Block) → start j (part k) ≡ start j' (rest k)
