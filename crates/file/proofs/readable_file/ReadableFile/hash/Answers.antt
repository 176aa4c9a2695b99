use Rattle.std.proofs.Common.{◌≡◌, ℕ, ◌+◌, ◌-◌, length, take, fold, arith}
use Rattle.std.proofs.lemmas.List.{length-take-le}
use Rattle.byte_lists.specs.Bytes.{part}
use Rattle.device.specs.declared.pieces.Piece.{Piece}
use Rattle.device.specs.Pieces.{IsNext}
use Rattle.file.specs.ReadableFiles.{contents}
use Rattle.cdb.specs.Records.{hash_step}
use Rattle.cdb.proofs.Hashes.{hash_is, hashed_part}
use Rattle.file.proofs.Readying.{buffer_long}
use Rattle.file.proofs.SameFiles.{same_file_then}
use Rattle.file.proofs.readable_file.ReadableFile.hash.Goals as goal

pub loop-piece-preserved : goal.loop-piece-preserved
loop-piece-preserved g c =
    let f = contents c.args.self.now in
    let w : Piece = c.in-Some.piece in
    let next : IsNext c.loop-piece.piece-iterator w c.next.new.self = c.in-Some.ensures.steps in
    let k : ℕ = w.to - w.from in
    let inv = c.loop-piece.invariant in
    let z : length (take k c.loop-piece.bytes) ≡ k = length-take-le k c.loop-piece.bytes (omega arith) in
    let e : c.hash_piece-hash.result ≡ fold hash_step c.loop-piece.hash (part f (c.args.p + w.from) k) = rw (inv.same.contents, z) at c.hash_piece-hash.ensures.hash in
    let done : w.from + k ≡ c.next.new.self.done = omega arith in
    record {
      len = omega arith;
      room = buffer_long 512 k _ c.loop-piece.bytes inv.room (omega arith) c.hash_piece-hash.auto.bytes;
      hash = rw (← done) (hashed_part f c.args.p w.from k c.loop-piece.hash _ (rw next.from inv.hash) e);
      same = same_file_then inv.same c.hash_piece-hash.ensures.same;
    }

pub returns-clause-hash : goal.returns-clause-hash
returns-clause-hash g c =
    let end : c.loop-piece.piece-iterator.done ≡ c.args.n = omega (arith, c.in-None.ensures.steps.0) in
    rw (hash_is, ← end) c.loop-piece.invariant.hash
