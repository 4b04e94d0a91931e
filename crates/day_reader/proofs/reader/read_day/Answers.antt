use Rattle.std.proofs.Common.{rules}
use Rattle.day_reader.proofs.Answering.{truncated, answer_where_room, reads_accepts}
use Rattle.day_reader.proofs.reader.read_day.Goals as goal

pub returns-then-is_err : goal.returns-then-is_err
returns-then-is_err c =
    let t = c.args.text.now in
    let old = c.args.records.now in
    let r = c.append_records-read.result in
    let new = c.truncate.new.self in
    let s = truncated t old r c.append_records-read.new.records new (search rules) c.append_records-read.ensures.records (search rules) in
    record { reads = s; answer = answer_where_room t old r new s; accepts = reads_accepts t old r new s; capacity = search rules }

pub returns-else-is_err-clause-accepts : goal.returns-else-is_err-clause-accepts
returns-else-is_err-clause-accepts c = reads_accepts c.args.text.now c.args.records.now c.append_records-read.result c.append_records-read.new.records (search rules)
