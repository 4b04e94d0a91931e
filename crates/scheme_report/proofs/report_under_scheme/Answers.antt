use Rattle.std.proofs.Common.{sym}
use Rattle.scheme_report.proofs.report_under_scheme.Goals as goal

pub returns-in-Ok-Chain : goal.returns-in-Ok-Chain
returns-in-Ok-Chain g c =
    let read = rw c.in-Ok-Chain.field-0-is at c.in-Ok-Chain.ensures.value in
    rw (sym read) c.report_under_sheet.ensures

pub returns-in-Ok-Parties : goal.returns-in-Ok-Parties
returns-in-Ok-Parties g c =
    let read = rw c.in-Ok-Parties.field-0-is at c.in-Ok-Parties.ensures.value in
    rw (sym read) c.report_under_sheet-in-Ok-Parties.ensures
