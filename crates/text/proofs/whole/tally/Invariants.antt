use Rattle.std.proofs.Common.{◌≡◌, ◌-◌, length}
use Rattle.text.proofs.Counting.{Counted}
use Rattle.text.proofs.whole.tally.Given as goal

abbrev pub invariant-loop-record : goal.invariant-loop-record
invariant-loop-record l = (l.reader.text.now ≡ l.text) × Counted l.text l.reader.place l.records l.bytes

abbrev pub decreases-loop-record : goal.decreases-loop-record
decreases-loop-record l = length l.reader.text.now - l.reader.place
