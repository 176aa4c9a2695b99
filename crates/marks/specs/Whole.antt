-- Marks change nothing by which a device is whole.
use Rattle.std.specs.Prelude.{ℕ, List}
use Rattle.device.specs.Meanings.{Meaning, Whole}
use Rattle.marks.specs.Marks.{marked}

pub marked_whole : (xs : List ℕ) (m : Meaning) → Whole m → Whole (marked xs m)
marked_whole xs m w = record { few = w.few; long = w.long; bytes = w.bytes; on = w.on }
