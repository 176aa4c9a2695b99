use Rattle.std.proofs.Common.{ℕ, ◌+◌, List, Result, refl, inr}
use Rattle.faults.specs.declared.device.DeviceFault.{DeviceFault}
use Rattle.faults.specs.declared.file.FileFault.TheVariants.{Device}
use Rattle.faults.proofs.Places.{placed_ok, placed_err}
use Rattle.device.specs.Meanings.{Meaning}
use Rattle.writing.specs.Runs.{Runs}
use Rattle.building.specs.declared.entries.Entry.{Entry}
use Rattle.building.specs.declared.layout.Table.{Table}
use Rattle.building.specs.Builds.{headed}
use Rattle.building.specs.Closes.{Builds, Closes}
use Rattle.building.proofs.Tabling.{closed, header_refused}
use Rattle.building.proofs.closing.close.Goals as goal

abbrev Tabled : Meaning → ℕ → List Entry → Meaning → Result (Unit {0}) DeviceFault → Type 0
Tabled m from es k r = Builds m from es r k

abbrev Headed : Meaning → ℕ → ℕ → List Table → Meaning → Result (Unit {0}) DeviceFault → Type 0
Headed k base end ts n r = Runs k base (headed end ts 256) r n

pub returns-in_err-add_place-2 : goal.returns-in_err-add_place-2
returns-in_err-add_place-2 g c =
    let m : Meaning = g.D.Device.meaning c.args.d.now in
    let k : Meaning = g.D.Device.meaning c.build.new.d in
    let n : Meaning = g.D.Device.meaning c.write_header.new.d in
    let es : List Entry = c.args.entries.now in
    let b = placed_ok (Tabled m (c.args.base + c.args.end) es k) 256 c.args.end c.add_place.ensures c.in_ok-add_place.was c.build.ensures.builds in
    record {
      closes = placed_err (Headed k c.args.base c.args.end c.tables_of-tables.result n) (λ r. Closes m c.args.base c.args.end es r n) Device 256 0 c.add_place-2.ensures c.in_err-add_place-2.was
          c.from_residual-in_err-add_place-2.ensures.1 c.write_header.ensures.runs
          (λ f h. (f, inr (refl, header_refused m k n c.args.base c.args.end c.tables_of-tables.result es (g.met.D.Device.whole c.args.d.now) c.requires.within c.requires.past c.tables_of-tables.ensures f b h)));
    }

pub returns : goal.returns
returns g c =
    let m : Meaning = g.D.Device.meaning c.args.d.now in
    let k : Meaning = g.D.Device.meaning c.build.new.d in
    let n : Meaning = g.D.Device.meaning c.write_header.new.d in
    let es : List Entry = c.args.entries.now in
    let b = placed_ok (Tabled m (c.args.base + c.args.end) es k) 256 c.args.end c.add_place.ensures c.in_ok-add_place.was c.build.ensures.builds in
    record {
      closes = closed m k n c.args.base c.args.end c.tables_of-tables.result es (g.met.D.Device.whole c.args.d.now) c.requires.within c.requires.past c.tables_of-tables.ensures b
          (placed_ok (Headed k c.args.base c.args.end c.tables_of-tables.result n) 256 0 c.add_place-2.ensures c.in_ok-add_place-2.was c.write_header.ensures.runs);
    }
