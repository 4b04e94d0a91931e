use Rattle.std.proofs.Common.{◌≡◌, true, false, Some, sym, ap, ◌∙◌, arith}
use Rattle.std.proofs.lemmas.Grind.{common_steps}
use Rattle.std.proofs.lemmas.List.{take_rest}
use Rattle.std.proofs.lemmas.Bool.Decides.{nat_tests}
use Rattle.parts.specs.Parts.{is_mark}
use Rattle.parts.proofs.Marks.{found, missing}
use Rattle.parts.proofs.cut_part.Goals as goal

pub returns-in-Some-clause-part : goal.returns-in-Some-clause-part
returns-in-Some-clause-part c =
    let none : is_mark true c.args.text.now ≡ false = grind (arith, common_steps, nat_tests) in
    let first = c.in-Some.ensures in
    sym (found c.args.text.now true c.in-Some.i none (λ k lt long. first.2 k lt) first.0 first.1).0

pub returns-in-Some-clause-rest : goal.returns-in-Some-clause-rest
returns-in-Some-clause-rest c =
    let none : is_mark true c.args.text.now ≡ false = grind (arith, common_steps, nat_tests) in
    let first = c.in-Some.ensures in
    ap Some (take_rest c.args.text.now _) ∙ sym (found c.args.text.now true c.in-Some.i none (λ k lt long. first.2 k lt) first.0 first.1).1

pub returns-in-None-clause-part : goal.returns-in-None-clause-part
returns-in-None-clause-part c =
    let none : is_mark true c.args.text.now ≡ false = grind (arith, common_steps, nat_tests) in
    sym (missing c.args.text.now true none (λ k lt. c.in-None.ensures k)).0

pub returns-in-None-clause-rest : goal.returns-in-None-clause-rest
returns-in-None-clause-rest c =
    let none : is_mark true c.args.text.now ≡ false = grind (arith, common_steps, nat_tests) in
    sym (missing c.args.text.now true none (λ k lt. c.in-None.ensures k)).1
