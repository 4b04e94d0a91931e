-- What a reaction answers once its handler's block has run. Assumes nothing.
use Rattle.std.proofs.Common.{◌≡◌, ℕ, ◌-◌, ◌≤◌, List, Ok, Err, Result, [], ◌++◌, length, drop, sym, refl, ap, ◌∙◌, arith, take-append-drop, length-take}
use Rattle.ticket.specs.declared.Ticket.{Ticket}
use Rattle.language.specs.Block.{done, handler_of}
use Rattle.language.specs.Run.{run}
use Rattle.language.specs.Step.{command, Ending, ended, stalled, iterate, outcome, reaction}
use Rattle.language.proofs.Blocks.{run_is_iterated_step, run_done, ⨟-done}
use Rattle.machine.specs.declared.Reaction.{Reaction}
use Rattle.std.specs.Result.{is_err}
use Rattle.program.specs.declared.rows.Row.{Row}
use Rattle.program.specs.declared.rows.Term.{Term}
use Rattle.program.specs.Trees.{tree_of}
use Rattle.machine.specs.Reacting.{Reacts}
use Rattle.interpreter.specs.declared.job.Job.{Job}
use Rattle.interpreter.specs.declared.job.Stalled.{Stalled}
use Rattle.interpreter.specs.Handlers.{handled_at}
use Rattle.interpreter.specs.Jobs.{tickets, resume, Keeps, Runs}

-- how a reaction ends that has nothing left to run
abbrev at_end : Result (Unit {0}) Stalled → Job → Ending
at_end (Ok u) j = ended j.left j.words (tickets j)
at_end (Err e) j = stalled j.left j.words (tickets j)

resume_done : (r : Result (Unit {0}) Stalled) (j : Job) → resume r j done ≡ at_end r j
resume_done (Ok u) j = run_done j.input j.left j.words (tickets j)
resume_done (Err e) j = refl

-- before the first step
abbrev pub opening : (words : List ℕ) (slip : List Ticket) (t : Ticket) (n : ℕ) → 0 ≤ length slip → Job
opening words slip t n room = record { words = words; slip = slip; made = 0; left = n; input = t.value; room = room }

-- what is answered
abbrev pub answer : ℕ → Result (Unit {0}) Stalled → Job → Reaction
answer n r j = record { made = j.made; steps = n - j.left; stalled = is_err r }

made_is : (j : Job) → length (tickets j) ≡ j.made
made_is j = length-take j.made j.slip ∙ omega (arith, j.room)

slip_is : (j i : Job) → drop j.made j.slip ≡ drop j.made i.slip → j.slip ≡ tickets j ++ drop (length (tickets j)) i.slip
slip_is j i b = sym (take-append-drop j.made j.slip) ∙ ap (λ s. tickets j ++ s) (b ∙ ap (λ m. drop m i.slip) (sym (made_is j)))

answers : (n : ℕ) (r : Result (Unit {0}) Stalled) (i j : Job) → Keeps i j → Reacts (outcome n (at_end r j)) i.slip (answer n r j) j.words j.slip
answers n (Ok u) i j k = record { made = sym (made_is j); steps = refl; stalled = refl; words = refl; slip_holds = slip_is j i k.beyond }
answers n (Err e) i j k = record { made = sym (made_is j); steps = refl; stalled = refl; words = refl; slip_holds = slip_is j i k.beyond }

-- a handler that ran as it should makes the reaction
pub reacts : (rows : List Row) (terms : List Term) (words : List ℕ) (slip : List Ticket) (t : Ticket) (n : ℕ) (room : 0 ≤ length slip) (r : Result (Unit {0}) Stalled) (j : Job)
    → Runs (opening words slip t n room) (handled_at rows terms t.channel) r j → Reacts (reaction (tree_of rows terms) words t n) slip (answer n r j) j.words j.slip
reacts rows terms words slip t n room r j runs =
    let b = handler_of (tree_of rows terms) t.channel in
    let all : iterate t.value n words [] (command b) ≡ at_end r j =
    run_is_iterated_step t.value n words [] b ∙ ap (run t.value n words []) (sym (⨟-done b)) ∙ runs.as_told done ∙ resume_done r j
    in
    rw all (answers n r (opening words slip t n room) j runs.keeps)
