use Rattle.std.proofs.Common.{take}
use Rattle.playing.specs.Laws.{RanTo}
use Rattle.playing.proofs.running.run.Given as goal

abbrev pub invariant-loop-step : goal.invariant-loop-step
invariant-loop-step g l =
    RanTo g.D.Bench.turns g.D.Bench.starts (g.D.Device.meaning l.fn.device) (g.E.Device.meaning l.initial.other) l.initial.entries (take l.step-index l.steps) l.log.items
    (g.D.Device.meaning l.stage.device) (g.E.Device.meaning l.other) l.stage.state l.entries
