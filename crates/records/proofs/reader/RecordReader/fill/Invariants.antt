use Rattle.std.proofs.Common.{◌≡◌, ◌≤◌, length}
use Rattle.records.proofs.Filling.{Filling}
use Rattle.records.proofs.reader.RecordReader.fill.Given as goal

abbrev pub invariant-loop-slot : goal.invariant-loop-slot
invariant-loop-slot l = record {
  same : l.self.file.now ≡ l.fn.self.file.now;
  filling : Filling l.fn.self.file.now l.fn.self.place l.self.place l.slot-index l.n (length l.fn.into) l.slot-items;
  room : l.n ≤ length l.fn.into;
}
