use Rattle.std.proofs.Common.{map, take}
use Rattle.text.specs.Readings.{lent}
use Rattle.shelf_making.specs.Adding.{AddedAll}
use Rattle.shelf_making.proofs.adding.add_records.Given as goal

abbrev pub invariant-loop-record : goal.invariant-loop-record
invariant-loop-record g l = AddedAll (g.D.Device.meaning l.initial.d) l.initial.draft l.initial.entries (map lent (take l.record-index l.records)) l.draft (g.D.Device.meaning l.d) l.entries
