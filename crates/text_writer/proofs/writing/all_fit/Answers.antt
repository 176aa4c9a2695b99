use Rattle.std.proofs.Common.{arith}
use Rattle.text_writer.proofs.Back.{blank, proper_at}
use Rattle.text_writer.proofs.writing.all_fit.Goals as goal

pub line_len-len-requires : goal.line_len-len-requires
line_len-len-requires c =
    let h = proper_at c.args.records.now c.loop-one.one-index blank (omega arith) c.requires in
    (h.2, h.3)
