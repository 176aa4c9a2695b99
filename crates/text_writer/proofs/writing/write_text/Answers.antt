use Rattle.std.proofs.Common.{map, length, Ok, arith}
use Rattle.text.specs.Readings.{lent}
use Rattle.text_writer.proofs.Back.{whole_text, text_back, list_back}
use Rattle.text_writer.proofs.writing.write_text.Goals as goal

pub returns : goal.returns
returns c =
    let rs = map lent c.args.records.now in
    let b = c.args.buffer.now in
    let n = c.put_text.new.self.written in
    let s = c.new-sheet.ensures.blank in
    let l = c.all_fit.ensures.0 c.if-not-all_fit.false in
    let w = whole_text rs b c.new-sheet.result _ (c.all_proper.ensures.0 c.if-not-all_proper.false) s.1 s.0 (omega arith) c.put_text.ensures in
    record {
      writes = (w.0, w.1, w.2, grind arith);
      text_back = text_back rs (length b) b (Ok n) _ (w.0, w.1, w.2, grind arith);
      list_back = list_back rs (length b) b (Ok n) _ (w.0, w.1, w.2, grind arith);
    }
