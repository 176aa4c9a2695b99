use Rattle.std.proofs.Common.{take}
use Rattle.building.specs.Builds.{FilledWith}
use Rattle.building.proofs.filling.fill.Given as goal

abbrev pub invariant-loop-entry : goal.invariant-loop-entry
invariant-loop-entry g l = FilledWith (g.D.Device.meaning l.initial.d) l.from l.entries (take l.entry-index l.entries) (g.D.Device.meaning l.d)
