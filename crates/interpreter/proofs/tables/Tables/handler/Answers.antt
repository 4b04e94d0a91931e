use Rattle.std.proofs.Common.{◌≡◌, true, false, rules, tests}
use Rattle.std.proofs.lemmas.Iterator.{IsFirst-from_position, YieldsList-from_slice}
use Rattle.program.specs.declared.rows.Row.{Row}
use Rattle.program.specs.Building.{is_handler_of}
use Rattle.interpreter.proofs.Openings.{begins}
use Rattle.interpreter.proofs.tables.Tables.handler.Goals as goal

pub returns : goal.returns
returns c =
    let rows = c.args.self.now.rows.now in
    let own = λ (r : Row). is_handler_of c.args.channel r.kind in
    begins rows c.args.channel c.position.result
    (IsFirst-from_position _ _ c.position.result (λ r. own r ≡ true) (λ r. own r ≡ false) c.position.ensures.ran (YieldsList-from_slice rows cc) (λ x q k. search (rules, tests)) (λ x q k. search (rules, tests)))
