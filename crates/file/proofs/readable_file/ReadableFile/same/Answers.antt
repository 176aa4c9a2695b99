use Rattle.std.proofs.Common.{◌≡◌, ℕ, ◌+◌, ◌-◌, length, take, Decides, arith}
use Rattle.std.proofs.lemmas.List.{length-take-le}
use Rattle.std.proofs.lemmas.Bool.Decides.{not_from_Decides}
use Rattle.std.proofs.lemmas.Bool.{false≢true}
use Rattle.byte_lists.specs.Bytes.{part}
use Rattle.device.specs.declared.pieces.Piece.{Piece}
use Rattle.device.specs.Pieces.{IsNext}
use Rattle.file.specs.ReadableFiles.{contents}
use Rattle.byte_lists.proofs.Parts.{same_more, same_less}
use Rattle.file.proofs.Readying.{buffer_long}
use Rattle.file.proofs.SameFiles.{same_file_then}
use Rattle.file.proofs.readable_file.ReadableFile.same.Goals as goal

pub returns-then-not-same_piece-clause-answer : goal.returns-then-not-same_piece-clause-answer
returns-then-not-same_piece-clause-answer g c =
    let f = contents c.args.self.now in
    let w : Piece = c.in-Some.piece in
    let next : IsNext c.loop-piece.piece-iterator w c.next.new.self = c.in-Some.ensures.steps in
    let k : ℕ = w.to - w.from in
    let inv = c.loop-piece.invariant in
    let z : length (take k c.loop-piece.a) ≡ k = length-take-le k c.loop-piece.a (omega arith) in
    let a : Decides c.same_piece.result (part f (c.args.p + w.from) k ≡ part f (c.args.q + w.from) k) = simp (inv.same.contents, z) at c.same_piece.ensures.answer in
    ((λ h. absurd (false≢true h)), λ h. absurd (not_from_Decides c.same_piece.result a c.if-not-same_piece.true (same_less f c.args.p c.args.q c.args.n w.from k (omega arith) h)))

pub loop-piece-preserved : goal.loop-piece-preserved
loop-piece-preserved g c =
    let f = contents c.args.self.now in
    let w : Piece = c.in-Some.piece in
    let next : IsNext c.loop-piece.piece-iterator w c.next.new.self = c.in-Some.ensures.steps in
    let k : ℕ = w.to - w.from in
    let inv = c.loop-piece.invariant in
    let z : length (take k c.loop-piece.a) ≡ k = length-take-le k c.loop-piece.a (omega arith) in
    let a : Decides c.same_piece.result (part f (c.args.p + w.from) k ≡ part f (c.args.q + w.from) k) = simp (inv.same.contents, z) at c.same_piece.ensures.answer in
    let done : w.from + k ≡ c.next.new.self.done = omega arith in
    record {
      len = omega arith;
      room_a = buffer_long 512 k _ c.loop-piece.a inv.room_a (omega arith) c.same_piece.auto.a;
      room_b = buffer_long 512 k _ c.loop-piece.b inv.room_b (omega arith) c.same_piece.auto.b;
      equal = rw (← done) (same_more f c.args.p c.args.q w.from k (rw next.from inv.equal) (a.0 c.if-not-same_piece.false));
      same = same_file_then inv.same c.same_piece.ensures.same;
    }
