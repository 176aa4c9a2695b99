use Rattle.std.proofs.Common.{◌≡◌, length}
use Rattle.file.specs.Ranges.{AllRead, Holds}
use Rattle.file.proofs.reading.read_part.Given as goal

abbrev pub invariant-loop-piece : goal.invariant-loop-piece
invariant-loop-piece g l = record {
  start : l.piece-iterator.start ≡ l.place;
  len : l.piece-iterator.len ≡ length l.initial.buffer;
  readable : AllRead (g.D.Device.meaning l.initial.d) l.place l.piece-iterator.done;
  holds : Holds (g.D.Device.meaning l.initial.d) l.place l.piece-iterator.done l.initial.buffer l.buffer;
  same : g.D.Device.meaning l.d ≡ g.D.Device.meaning l.initial.d;
}
