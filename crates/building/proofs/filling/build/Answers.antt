use Rattle.std.proofs.Common.{◌*◌, List, length}
use Rattle.device.specs.Meanings.{Meaning}
use Rattle.writing.specs.Runs.{Completed}
use Rattle.building.specs.declared.entries.Entry.{Entry}
use Rattle.building.proofs.Begun.{zeros, filled_start, built_after}
use Rattle.building.proofs.filling.build.Goals as goal

pub fill-requires-clause-empty : goal.fill-requires-clause-empty
fill-requires-clause-empty g c =
    let m : Meaning = g.D.Device.meaning c.args.d.now in
    let n : Meaning = g.D.Device.meaning c.write_zeros.new.d in
    let es : List Entry = c.args.entries.now in
    let p : Completed m c.args.from (zeros (16 * length es)) n = c.in_ok-write_zeros.ensures.runs in
    filled_start m n c.args.from es (g.met.D.Device.whole c.args.d.now) c.requires.within p

pub returns : goal.returns
returns g c =
    let m : Meaning = g.D.Device.meaning c.args.d.now in
    let n : Meaning = g.D.Device.meaning c.write_zeros.new.d in
    let es : List Entry = c.args.entries.now in
    record {
      builds = built_after m n c.args.from es (g.met.D.Device.whole c.args.d.now) c.requires.within c.in_ok-write_zeros.ensures.runs _ c.fill.result c.fill.ensures.fills;
    }
