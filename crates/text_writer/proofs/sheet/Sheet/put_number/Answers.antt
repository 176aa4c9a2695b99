use Rattle.std.proofs.Common.{arith}
use Rattle.text_writer.proofs.Laying.{both}
use Rattle.text_writer.proofs.sheet.Sheet.put_number.Goals as goal

pub returns : goal.returns
returns c = both _ _ _ _ _ (omega arith) c.put_digits.ensures c.put.ensures
