-- What writing a record does.
use Rattle.std.specs.Prelude.{◌≡◌, ℕ, ◌+◌, Ok, Err, Result}
use Rattle.faults.specs.declared.device.DeviceFault.{DeviceFault}
use Rattle.faults.specs.declared.file.FileFault.{FileFault}
use Rattle.device.specs.Meanings.{Meaning}
use Rattle.cdb.specs.Records.{Record, record_bytes, size}
use Rattle.writing.specs.Runs.{Completed, Interrupted, at_place}

-- the record stands at a position of the file at base; or the device refused, which is told with that position
abbrev pub WritesRecord : Meaning → ℕ → ℕ → Record → Result (Unit {0}) FileFault → Meaning → Type 0
WritesRecord m base position r (Ok _) n = Completed m (base + position) (record_bytes r) n
WritesRecord m base position r (Err x) n = (f : DeviceFault) × (x ≡ at_place f position) × Interrupted m (base + position) (size r) f n
