use Rattle.std.proofs.Common.{replicate}
use Rattle.writing.proofs.Running.{Upto}
use Rattle.writing.proofs.zeros.write_zeros.Given as goal

abbrev pub invariant-loop-piece : goal.invariant-loop-piece
invariant-loop-piece g l = Upto (g.D.Device.meaning l.initial.d) l.place (replicate l.n 0) l.piece-iterator (g.D.Device.meaning l.d)
