use Rattle.std.proofs.Common.{replicate, arith}
use Rattle.device.specs.declared.pieces.Piece.{Piece}
use Rattle.device.specs.Pieces.{IsNext}
use Rattle.writing.proofs.Running.{turned, stopped}
use Rattle.writing.proofs.Zeroed.{next_zeros, zeros_long}
use Rattle.writing.proofs.zeros.write_zeros.Goals as goal

pub returns-in_err-write : goal.returns-in_err-write
returns-in_err-write g c =
    let w : Piece = c.in-Some.piece in
    let next : IsNext c.loop-piece.piece-iterator w c.next.new.self = c.in-Some.ensures.steps in
    let l = zeros_long c.args.n in
    record {
      runs = stopped _ c.args.place (replicate c.args.n 0) (g.met.D.Device.whole c.args.d.now) (omega (arith, c.requires.within)) _ _ _ c.loop-piece.invariant next
          (next_zeros c.args.n w.from _ (omega arith) (omega arith)) c.in_err-write.ensures c.from_residual.ensures.1;
    }

pub loop-piece-preserved : goal.loop-piece-preserved
loop-piece-preserved g c =
    let w : Piece = c.in-Some.piece in
    let next : IsNext c.loop-piece.piece-iterator w c.next.new.self = c.in-Some.ensures.steps in
    let l = zeros_long c.args.n in
    turned _ c.args.place (replicate c.args.n 0) (g.met.D.Device.whole c.args.d.now) (omega (arith, c.requires.within)) _ c.loop-piece.invariant next
    (next_zeros c.args.n w.from _ (omega arith) (omega arith)) c.in_ok-write.ensures
