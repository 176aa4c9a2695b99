use Rattle.std.proofs.Common.{◌≡◌}
use Rattle.making.proofs.Written.{Writing}
use Rattle.making.proofs.writing_records.write_records.Given as goal

abbrev pub invariant-loop-entry : goal.invariant-loop-entry
invariant-loop-entry g l = (l.records.text.now ≡ l.text) × Writing (g.D.Device.meaning l.initial.d) (g.D.Device.meaning l.d) l.text l.records.place l.place l.entry-index l.fn.entries l.entries
