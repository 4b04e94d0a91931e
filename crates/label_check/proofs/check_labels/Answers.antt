use Rattle.std.proofs.Common.{Ok, Err, length, ap, arith}
use Rattle.label_check.proofs.Exact.{rows_are_few, found_is_checked, check_is_exact}
use Rattle.label_check.proofs.check_labels.Goals as goal

pub overflow_cast-result : goal.overflow_cast-result
overflow_cast-result g c = omega (arith, rows_are_few c.args.program.now, ap length c.tables.ensures.rows, c.in-Err.ensures.place)

pub overflow_add-result : goal.overflow_add-result
overflow_add-result g c = omega (arith, rows_are_few c.args.program.now, ap length c.tables.ensures.rows, c.in-Err.ensures.place)

pub returns-in-Ok : goal.returns-in-Ok
returns-in-Ok g c =
    let laws = g.met.S.Scheme.lattice c.args.scheme.now in
    let m = c.args.program.now in
    let p = c.tables.result in
    let copied = c.in_ok-table.ensures in
    let value = found_is_checked laws c.in_ok-table.table copied.0 c.args.sheet.now copied.1 m p.rows.now p.terms.now c.tables.ensures.rows c.tables.ensures.terms (Ok c.in-Ok.field-0) c.in-Ok.ensures.value in
    record { value = value; exact = check_is_exact laws c.args.sheet.now m _ value }

pub returns-in-Err : goal.returns-in-Err
returns-in-Err g c =
    let laws = g.met.S.Scheme.lattice c.args.scheme.now in
    let m = c.args.program.now in
    let p = c.tables.result in
    let copied = c.in_ok-table.ensures in
    let value = found_is_checked laws c.in_ok-table.table copied.0 c.args.sheet.now copied.1 m p.rows.now p.terms.now c.tables.ensures.rows c.tables.ensures.terms (Err c.in-Err.leak) c.in-Err.ensures.value in
    record { value = value; exact = check_is_exact laws c.args.sheet.now m _ value }
