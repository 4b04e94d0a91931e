-- What every part of a reaction keeps. Assumes nothing.
use Rattle.std.proofs.Common.{◌≡◌, ℕ, ◌+◌, ◌-◌, ◌≤◌, length, drop, set, sym, refl, ap, ◌∙◌, arith}
use Rattle.std.proofs.lemmas.List.{drop-drop, drop-set-lt}
use Rattle.ticket.specs.declared.Ticket.{Ticket}
use Rattle.interpreter.specs.Jobs.{spent, Keeps}
use Rattle.interpreter.specs.declared.job.Job.{Job}

pub keeps_all : (j : Job) → Keeps j j
keeps_all j = record { fewer_steps = omega arith; more_tickets = omega arith; beyond = refl }

-- slips that agree from m on agree from n on
agree_further : (m n : ℕ) (i j : Job) → m ≤ n → drop m i.slip ≡ drop m j.slip → drop n i.slip ≡ drop n j.slip
agree_further m n i j h e =
    let is : m + (n - m) ≡ n = omega arith in
    ap (λ o. drop o i.slip) (sym is) ∙ sym (drop-drop (n - m) m i.slip) ∙ ap (drop (n - m)) e ∙ drop-drop (n - m) m j.slip ∙ ap (λ o. drop o j.slip) is

-- one part after another
pub keeps_on : (i j k : Job) → Keeps i j → Keeps j k → Keeps i k
keeps_on i j k a b =
    record {
      fewer_steps = omega (arith, a.fewer_steps, b.fewer_steps);
      more_tickets = omega (arith, a.more_tickets, b.more_tickets);
      beyond = b.beyond ∙ agree_further j.made k.made j i b.more_tickets a.beyond;
    }

pub keeps_spent : (j j' : Job) → j' ≡ spent j → Keeps j j'
keeps_spent j j' job = rw job (record { fewer_steps = omega arith; more_tickets = omega arith; beyond = refl })

-- j with a variable changed
abbrev pub stored : (j : Job) → ℕ → ℕ → j.made ≤ length j.slip → Job
stored j v w room = record { words = set j.words v w; slip = j.slip; made = j.made; left = j.left; input = j.input; room = room }

pub keeps_stored : (j : Job) (v w : ℕ) (room : j.made ≤ length j.slip) → Keeps j (stored j v w room)
keeps_stored j v w room = record { fewer_steps = omega arith; more_tickets = omega arith; beyond = refl }

-- j with a ticket more
abbrev pub sent : (j : Job) (t : Ticket) → j.made + 1 ≤ length (set j.slip j.made t) → Job
sent j t room = record { words = j.words; slip = set j.slip j.made t; made = j.made + 1; left = j.left; input = j.input; room = room }

pub keeps_sent : (j : Job) (t : Ticket) (room : j.made + 1 ≤ length (set j.slip j.made t)) → Keeps j (sent j t room)
keeps_sent j t room = record { fewer_steps = omega arith; more_tickets = omega arith; beyond = drop-set-lt (j.made + 1) j.slip j.made t (omega arith) }
