use Rattle.faults.proofs.Places.{add_place_ok}
use Rattle.areas.proofs.Rooted.{root_is_read}
use Rattle.areas.proofs.roots.read_sector.Goals as goal

pub returns-clause-reads : goal.returns-clause-reads
returns-clause-reads g c =
    root_is_read (g.D.Device.meaning c.args.d.now) c.args.bytes.now c.read.new.piece c.read.result c.told-bytes c.read.ensures.answer c.read.ensures.piece _
    (add_place_ok c.read.result c.add_place.result _ 256 0 c.add_place.ensures c.in_ok-add_place.was)
