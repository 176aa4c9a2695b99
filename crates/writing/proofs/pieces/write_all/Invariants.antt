use Rattle.writing.proofs.Running.{Upto}
use Rattle.writing.proofs.pieces.write_all.Given as goal

abbrev pub invariant-loop-piece : goal.invariant-loop-piece
invariant-loop-piece g l = Upto (g.D.Device.meaning l.initial.d) l.place l.bytes l.piece-iterator (g.D.Device.meaning l.d)
