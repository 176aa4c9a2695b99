use Rattle.faults.proofs.Places.{placed_ok}
use Rattle.device.specs.Meanings.{Meaning}
use Rattle.areas.specs.declared.area.Area.TheVariants.{Zero}
use Rattle.areas.specs.Steps.{WritesRoot}
use Rattle.building.specs.Empty.{WritesEmpty}
use Rattle.shelf.proofs.Formatted.{formatted}
use Rattle.shelf.proofs.formatting.write_shelf.Goals as goal

pub returns : goal.returns
returns g c =
    let m : Meaning = g.D.Device.meaning c.args.d.now in
    let k : Meaning = g.D.Device.meaning c.write_empty.new.d in
    let n : Meaning = g.D.Device.meaning c.write_root.new.d in
    record {
      writes = formatted m k n (g.met.D.Device.whole c.args.d.now) c.requires.room
          (placed_ok (λ r. WritesEmpty m 512 r k) 256 512 c.add_place.ensures c.in_ok-add_place.was c.write_empty.ensures.writes)
          (placed_ok (λ r. WritesRoot k Zero 2048 r n) 256 0 c.add_place-2.ensures c.in_ok-add_place-2.was c.write_root.ensures.writes);
    }
