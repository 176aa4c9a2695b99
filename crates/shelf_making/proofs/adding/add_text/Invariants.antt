use Rattle.std.proofs.Common.{◌≡◌, ◌-◌, length}
use Rattle.shelf_making.proofs.Gathered.{Adding}
use Rattle.shelf_making.proofs.adding.add_text.Given as goal

abbrev pub invariant-loop-record : goal.invariant-loop-record
invariant-loop-record g l = (l.records.text.now ≡ l.text) × Adding (g.D.Device.meaning l.initial.d) l.initial.draft l.initial.entries l.text l.records.place l.draft (g.D.Device.meaning l.d) l.entries

abbrev pub decreases-loop-record : goal.decreases-loop-record
decreases-loop-record g l = length l.records.text.now - l.records.place
