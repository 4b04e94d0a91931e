-- A program that passes keeps levels apart in each reaction. Assumes nothing.
use Rattle.std.proofs.Common.{◌≡◌, ℕ, cond, List, [], refl, ap, le_refl}
use Rattle.std.proofs.lemmas.Bool.{cond_both}
use Rattle.ticket.specs.declared.Ticket.{Ticket}
use Rattle.language.specs.Block.{Tree, handler_of}
use Rattle.language.specs.Step.{outcome, reaction}
use Rattle.language.specs.Run.{run}
use Rattle.language.proofs.Blocks.{run_is_iterated_step}
use Rattle.typing.proofs.Passing.{passing_is_typing}
use Rattle.secrecy.specs.Observer.{Observer, observer, Agree}
use Rattle.secrecy.specs.Alike.{Alike, KeepsApart}
use Rattle.secrecy.specs.Laws.{TypedProgramsKeepLevelsApart, PassedProgramsKeepLevelsApart}
use Rattle.secrecy.proofs.Agreeing.{agree_trans}
use Rattle.secrecy.proofs.Hiding.{run_unnoticed}
use Rattle.secrecy.proofs.Outcomes.{unfed, alike_unfed}
use Rattle.secrecy.proofs.Secure.{handler_secure, handler_hidden}
use Rattle.secrecy.proofs.Together.{runs_alike}

-- a reaction told by blocks
reaction_run : (p : Tree) (words : List ℕ) (t : Ticket) (n : ℕ) → reaction p words t n ≡ outcome n (run t.value n words [] (handler_of p t.channel))
reaction_run p words t n = ap (outcome n) (run_is_iterated_step t.value n words [] (handler_of p t.channel))

pub passed_programs_keep_levels_apart : PassedProgramsKeepLevelsApart
passed_programs_keep_levels_apart labels ok p passed m = record {
  same_ticket_alike = λ t n k r s a.
      rw (reaction_run p r t n, reaction_run p s t k)
      (runs_alike (observer labels m) t.value n (handler_of p t.channel) (handler_secure ok p passed m t.channel) n k (le_refl n) r s [] [] a refl n k);
  unseen_ticket_unnoticed = λ t n s h.
      rw (reaction_run p s t n)
      (run_unnoticed (observer labels m) t.value n n s [] (handler_of p t.channel) (handler_hidden ok p passed m t.channel h));
}

pub typed_programs_keep_levels_apart : TypedProgramsKeepLevelsApart
typed_programs_keep_levels_apart labels ok p typed = passed_programs_keep_levels_apart labels ok p ((passing_is_typing labels ok p).1 typed)

-- one run is fed every ticket, the other only those that the observer sees: a step from words that agree has outcomes that are alike
pub fed_if_seen_alike : {O : Observer} {p : Tree} → KeepsApart O p → (t : Ticket) (n k : ℕ) (r s : List ℕ) → Agree O r s
    → Alike O (reaction p r t n) (cond (O.sees t.channel) (reaction p s t k) (unfed s))
fed_if_seen_alike {O} {p} apart t n k r s a =
    cond_both (O.sees t.channel) (reaction p s t k) (unfed s) (λ b. Alike O (reaction p r t n) b)
    (λ _. apart.same_ticket_alike t n k r s a)
    (λ e. let u = apart.unseen_ticket_unnoticed t n r e in alike_unfed O (reaction p r t n) s u.0 (agree_trans O u.1 a))
