use Rattle.std.proofs.Common.{◌≡◌, ◌-◌, Ok}
use Rattle.lookup.specs.Starts.{Start}
use Rattle.gathering.specs.Gathers.{Sofar, bytes_of}
use Rattle.gathering.proofs.gather.gather_from.Given as goal

abbrev pub invariant-loop-all : goal.invariant-loop-all
invariant-loop-all g l =
    (g.D.Device.meaning l.d ≡ g.D.Device.meaning l.initial.d)
    × (Start (g.D.Device.meaning l.initial.d) l.extent l.key (Ok l.initial.at) → Sofar (g.D.Device.meaning l.initial.d) l.extent l.key l.at (bytes_of l.all.items))

abbrev pub decreases-loop-all : goal.decreases-loop-all
decreases-loop-all g l = l.at.slots - l.at.probed
