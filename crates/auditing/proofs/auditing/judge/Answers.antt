use Rattle.std.proofs.Common.{◌-◌, ◌/◌, ap, arith}
use Rattle.cdb.specs.Verdicts.{broken_1}
use Rattle.file.specs.ReadableFiles.{contents}
use Rattle.auditing.proofs.Rulings.{entry_refuses, past_refuses, lost_refuses, unruled_refuses, unordered_refuses, none_refuses}
use Rattle.auditing.proofs.auditing.judge.Goals as goal

pub returns-then-len-lt-HEADER-clause-judged : goal.returns-then-len-lt-HEADER-clause-judged
returns-then-len-lt-HEADER-clause-judged g c = rw c.len-len.ensures (broken_1 (omega arith))

pub returns-in_err-end-clause-judged : goal.returns-in_err-end-clause-judged
returns-in_err-end-clause-judged g c = entry_refuses (contents c.args.file.now) (omega arith) _ _ c.from_residual.ensures.1 c.in_err-end.ensures.answer

pub returns-in_err-records-clause-judged : goal.returns-in_err-records-clause-judged
returns-in_err-records-clause-judged g c =
    past_refuses (contents c.args.file.now) (omega arith) _ c.in_ok-end.ensures.answer c.check_header.ensures.same.contents c.count_records.ensures.same.contents
    _ _ c.from_residual-in_err-records.ensures.1 c.in_err-records.ensures.answer

pub returns-in_err-placing-clause-judged : goal.returns-in_err-placing-clause-judged
returns-in_err-placing-clause-judged g c =
    lost_refuses (contents c.args.file.now) (omega arith) _ c.in_ok-end.ensures.answer c.check_header.ensures.same.contents c.count_records.ensures.same.contents
    _ _ c.from_residual-in_err-placing.ensures.1 c.in_err-placing.ensures.answer

pub returns-in_err-check_tables-clause-judged : goal.returns-in_err-check_tables-clause-judged
returns-in_err-check_tables-clause-judged g c =
    unruled_refuses (contents c.args.file.now) (omega arith) _ c.in_ok-end.ensures.answer c.check_header.ensures.same.contents c.count_records.ensures.same.contents
    c.in_ok-placing.placing c.in_ok-placing.ensures.answer c.place_records.ensures.same.contents _ _ c.from_residual-in_err-check_tables.ensures.1 c.in_err-check_tables.ensures.answer

pub returns-in_err-check_order-clause-judged : goal.returns-in_err-check_order-clause-judged
returns-in_err-check_order-clause-judged g c =
    unordered_refuses (contents c.args.file.now) (omega arith) _ c.in_ok-end.ensures.answer c.check_header.ensures.same.contents c.count_records.ensures.same.contents
    c.in_ok-placing.placing c.in_ok-placing.ensures.answer c.place_records.ensures.same.contents c.in_ok-check_tables.ensures.answer c.check_tables.ensures.same.contents
    _ _ c.from_residual-in_err-check_order.ensures.1 c.in_err-check_order.ensures.answer

pub returns-clause-judged : goal.returns-clause-judged
returns-clause-judged g c =
    none_refuses (contents c.args.file.now) (omega arith) _ c.in_ok-end.ensures.answer c.check_header.ensures.same.contents c.count_records.ensures.same.contents
    c.in_ok-placing.placing c.in_ok-placing.ensures.answer c.place_records.ensures.same.contents c.in_ok-check_tables.ensures.answer
    c.in_ok-records.records _ c.in_ok-records.ensures.answer (ap (λ n. (n - c.in_ok-end.end) / 8) c.len-len.ensures) c.in_ok-check_order.ensures.answer
