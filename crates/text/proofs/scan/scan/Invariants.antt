use Rattle.std.proofs.Common.{◌-◌, length}
use Rattle.text.proofs.Turns.{Seen}
use Rattle.text.proofs.scan.scan.Given as goal

abbrev pub invariant-loop-at : goal.invariant-loop-at
invariant-loop-at l = Seen l.state l.text l.start l.at

abbrev pub decreases-loop-at : goal.decreases-loop-at
decreases-loop-at l = length l.text - l.at
