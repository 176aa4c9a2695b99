use Rattle.std.proofs.Common.{arith}
use Rattle.text_writer.proofs.Telling.{length_no, no_added}
use Rattle.text_writer.proofs.outcome.put_no.Goals as goal

pub returns-clause-lays : goal.returns-clause-lays
returns-clause-lays c =
    let z = length_no c.args.told in
    let b = c.new-sheet.ensures.blank in
    let k = no_added c.args.told c.args.line.now c.new-sheet.result _ _ _ _ b.1 b.0 (omega arith) c.put.ensures c.put_number.ensures c.put_number-2.ensures c.put_number-3.ensures in
    (k.0, k.1, grind arith)
