use Rattle.std.proofs.Common.{ℕ, ◌<◌, ◌≤◌, Ok}
use Rattle.lookup.specs.declared.cursors.Probe.TheVariants.{Other}
use Rattle.lookup.specs.Nexts.{ProbeAt}
use Rattle.lookup.specs.Searches.{Kept}
use Rattle.lookup.proofs.searching.Search.walk.Given as goal

abbrev pub invariant-loop-at : goal.invariant-loop-at
invariant-loop-at g l =
    ((j : ℕ) → l.cursor.probed ≤ j → j < l.at → ProbeAt (g.D.Device.meaning l.initial.self.device.now) l.cursor l.initial.self.key.now j (Ok Other))
    × Kept l.initial.self l.self
