use Rattle.std.proofs.Common.{arith}
use Rattle.text_writer.proofs.Telling.{length_ok, ok_added}
use Rattle.text_writer.proofs.outcome.put_ok.Goals as goal

pub returns-clause-lays : goal.returns-clause-lays
returns-clause-lays c =
    let z = length_ok c.args.counted.records c.args.counted.bytes in
    let b = c.new-sheet.ensures.blank in
    let k = ok_added c.args.counted.records c.args.counted.bytes c.args.line.now c.new-sheet.result _ _ _ b.1 b.0 (omega arith) c.put.ensures c.put_number.ensures c.put_number-2.ensures in
    (k.0, k.1, grind arith)
