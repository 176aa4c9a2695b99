use Rattle.std.proofs.Common.{◌≡◌, ◌≤◌, length}
use Rattle.text.proofs.Filling.{Filling}
use Rattle.text.proofs.whole.read_records.Given as goal

abbrev pub invariant-loop-slot : goal.invariant-loop-slot
invariant-loop-slot l =
    record { same : l.records.text.now ≡ l.text; filling : Filling l.text l.records.place l.slot-index l.n l.slot-items; room : l.n ≤ length l.fn.into }
