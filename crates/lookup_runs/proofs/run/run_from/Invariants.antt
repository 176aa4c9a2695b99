use Rattle.std.proofs.Common.{◌≡◌, length, take}
use Rattle.lookup_runs.specs.Runs.{Keeps, RanTo}
use Rattle.lookup_runs.proofs.run.run_from.Given as goal

abbrev pub invariant-loop-i : goal.invariant-loop-i
invariant-loop-i g l =
    (length l.answers ≡ length l.calls)
    × Keeps l.extent (g.D.Device.meaning l.initial.d) (g.D.Device.meaning l.d)
    × RanTo (g.D.Device.meaning l.initial.d) l.extent l.key l.initial.at l.initial.buffer (take l.i l.calls) (take l.i l.answers) l.at l.buffer
