use Rattle.std.proofs.Common.{refl}
use Rattle.writing.proofs.Running.{turned, stopped}
use Rattle.writing.proofs.pieces.write_all.Goals as goal

pub returns-in_err-write : goal.returns-in_err-write
returns-in_err-write g c = record {
  runs = stopped _ c.args.place c.args.bytes.now (g.met.D.Device.whole c.args.d.now) c.requires.within _ _ _ c.loop-piece.invariant c.in-Some.ensures.steps refl c.in_err-write.ensures c.from_residual.ensures.1;
}

pub loop-piece-preserved : goal.loop-piece-preserved
loop-piece-preserved g c =
    turned _ c.args.place c.args.bytes.now (g.met.D.Device.whole c.args.d.now) c.requires.within _ c.loop-piece.invariant c.in-Some.ensures.steps refl c.in_ok-write.ensures
