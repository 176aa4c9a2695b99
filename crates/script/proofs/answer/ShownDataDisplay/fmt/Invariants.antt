use Rattle.std.proofs.Common.{map, take}
use Rattle.std.specs.Fmt.{HasWritten, IsPlainFormatter}
use Rattle.script.specs.Telling.{further}
use Rattle.script.proofs.answer.ShownDataDisplay.fmt.Given as goal

abbrev pub invariant-loop-other : goal.invariant-loop-other
invariant-loop-other g l = IsPlainFormatter l.initial.f → HasWritten g.W.Write.write_str_gives l.initial.f (further (map (λ v. v.items) (take l.other-index l.others))) l.f
