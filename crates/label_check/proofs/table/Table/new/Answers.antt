use Rattle.std.proofs.Common.{◌≡◌, true, arith, rules}
use Rattle.levels.specs.Lattices.{lowest_level}
use Rattle.sheet.specs.Sheets.{has_sheet}
use Rattle.typing.proofs.Levels.{labels_lawful}
use Rattle.label_check.proofs.table.Table.new.Goals as goal

pub invariant_of-result : goal.invariant_of-result
invariant_of-result g c =
    let laws = g.met.S.Scheme.lattice c.args.scheme.now in
    let few = laws.sized.1 in
    let has : has_sheet (g.S.Scheme.levels c.args.scheme.now) c.args.sheet.now ≡ true = search (rules, c.in_ok-check.ensures) in
    let lawful = labels_lawful laws c.args.sheet.now has in
    record {
      low = omega (arith, lowest_level laws, c.lowest.ensures);
      small = c.join_table.ensures.small;
      channels = λ k. omega (arith, lawful.channels k);
      variables = λ k. omega (arith, lawful.variables k);
    }
