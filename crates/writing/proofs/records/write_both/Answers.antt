use Rattle.std.proofs.Common.{arith}
use Rattle.device.specs.Meanings.{Meaning}
use Rattle.writing.proofs.Running.{runs_both}
use Rattle.writing.proofs.records.write_both.Goals as goal

pub returns : goal.returns
returns g c =
    let m : Meaning = g.D.Device.meaning c.args.d.now in
    let n : Meaning = g.D.Device.meaning c.write_all.new.d in
    record {
      runs = runs_both m n _ c.args.place c.args.first.now c.args.second.now c.write_all-2.result (omega (arith, c.requires.within, (g.met.D.Device.whole c.args.d.now).long)) c.in_ok-write_all.ensures.runs c.write_all-2.ensures.runs;
    }
