-- The file without records.
use Rattle.std.specs.Prelude.{◌≡◌, ℕ, List, [], replicate, Ok, Err, Result}
use Rattle.faults.specs.declared.device.DeviceFault.{DeviceFault}
use Rattle.faults.specs.declared.file.FileFault.{FileFault}
use Rattle.device.specs.Meanings.{Meaning}
use Rattle.cdb.specs.Files.{file_of}
use Rattle.writing.specs.Runs.{Completed, Interrupted, at_place}

-- no records, and 256 tables without slots: 2,048 bytes
unfoldable pub empty_file : List ℕ
empty_file = file_of [] (replicate 256 [])

-- it is written at a place of the device, or refused by the device
abbrev pub WritesEmpty : Meaning → ℕ → Result (Unit {0}) FileFault → Meaning → Type 0
WritesEmpty m base (Ok _) n = Completed m base empty_file n
WritesEmpty m base (Err x) n = (f : DeviceFault) × (x ≡ at_place f 0) × Interrupted m base 2048 f n
