use Rattle.std.proofs.Common.{arith}
use Rattle.file.proofs.Readying.{part_read}
use Rattle.file.proofs.readable_file.ReadableFile.part.Goals as goal

pub returns-clause-piece : goal.returns-clause-piece
returns-clause-piece g c =
    let f = c.args.self.now in
    part_read (g.D.Device.meaning f.device.now) f.extent c.args.p c.args.piece.now c.read_part.new.buffer c.read_part.result (g.met.D.Device.whole f.device.now) f.ready.readable (omega arith) c.read_part.ensures.filled
