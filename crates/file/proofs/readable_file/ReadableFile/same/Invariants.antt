use Rattle.std.proofs.Common.{◌≡◌, length}
use Rattle.byte_lists.specs.Bytes.{part}
use Rattle.file.specs.ReadableFiles.{contents, SameFile}
use Rattle.file.proofs.readable_file.ReadableFile.same.Given as goal

abbrev pub invariant-loop-piece : goal.invariant-loop-piece
invariant-loop-piece g l = record {
  len : l.piece-iterator.len ≡ l.n;
  room_a : length l.a ≡ 512;
  room_b : length l.b ≡ 512;
  equal : part (contents l.initial.self) l.p l.piece-iterator.done ≡ part (contents l.initial.self) l.q l.piece-iterator.done;
  same : SameFile l.initial.self l.self;
}
