use Rattle.std.proofs.Common.{◌≡◌, ◌+◌, length}
use Rattle.lookup.specs.Keys.{Agrees}
use Rattle.lookup.specs.Searches.{Kept}
use Rattle.lookup.proofs.searching.Search.same_across.Given as goal

abbrev pub invariant-loop-piece : goal.invariant-loop-piece
invariant-loop-piece g l = record {
  start : l.piece-iterator.start ≡ l.initial.self.cursor.extent.start + l.place;
  len : l.piece-iterator.len ≡ length l.initial.self.key.now;
  agrees : Agrees (g.D.Device.meaning l.initial.self.device.now) l.initial.self.cursor.extent l.place l.initial.self.key.now l.piece-iterator.done;
  kept : Kept l.initial.self l.self;
}
