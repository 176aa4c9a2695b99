use Rattle.writing.specs.Runs.{Completed}
use Rattle.building.specs.Builds.{headed}
use Rattle.building.proofs.heading.write_header.Given as goal

abbrev pub invariant-loop-t : goal.invariant-loop-t
invariant-loop-t g l = Completed (g.D.Device.meaning l.initial.d) l.base (headed l.end l.tables l.t) (g.D.Device.meaning l.d)
