use Rattle.std.proofs.Common.{◌≡◌, length, fold}
use Rattle.byte_lists.specs.Bytes.{part}
use Rattle.file.specs.ReadableFiles.{contents, SameFile}
use Rattle.cdb.specs.Records.{hash_step}
use Rattle.file.proofs.readable_file.ReadableFile.hash.Given as goal

abbrev pub invariant-loop-piece : goal.invariant-loop-piece
invariant-loop-piece g l = record {
  len : l.piece-iterator.len ≡ l.n;
  room : length l.bytes ≡ 512;
  hash : l.hash ≡ fold hash_step 5381 (part (contents l.initial.self) l.p l.piece-iterator.done);
  same : SameFile l.initial.self l.self;
}
