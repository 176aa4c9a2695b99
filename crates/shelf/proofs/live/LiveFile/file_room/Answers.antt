use Rattle.areas.specs.Geometry.{other}
use Rattle.shelf.proofs.live.LiveFile.file_room.Goals as goal

pub returns : goal.returns
returns c = c.area_size.ensures (other c.args.self.root.area)
