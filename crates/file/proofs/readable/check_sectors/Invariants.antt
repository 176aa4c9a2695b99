use Rattle.std.proofs.Common.{◌≡◌}
use Rattle.file.specs.Ranges.{SectorsRead}
use Rattle.file.proofs.readable.check_sectors.Given as goal

abbrev pub invariant-loop-s : goal.invariant-loop-s
invariant-loop-s g l =
    (g.D.Device.meaning l.d ≡ g.D.Device.meaning l.initial.d)
    × SectorsRead (g.D.Device.meaning l.initial.d) l.first l.s
