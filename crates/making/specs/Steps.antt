-- The inner steps of making a file.
use Rattle.std.specs.Prelude.{◌≡◌, ℕ, ◌*◌, ◌≤◌, List, length, Ok, Err, Result}
use Rattle.std.specs.List.{flat_map}
use Rattle.faults.specs.declared.file.FileFault.{FileFault}
use Rattle.device.specs.Meanings.{Meaning}
use Rattle.cdb.specs.Records.{Record, record_bytes}
use Rattle.writing.specs.Runs.{Completed}
use Rattle.building.specs.declared.entries.Entry.{Entry}
use Rattle.text.specs.Texts.{TextOf}
use Rattle.making.specs.Sizes.{end_of}
use Rattle.making.specs.Makes.{entries_from, RecordStopped}

-- so many records the text has, and they fit the device behind a header
abbrev pub RecordsFit : Meaning → ℕ → List ℕ → Type 0
RecordsFit m n t = (rs : List Record) × TextOf t rs × (n ≡ length rs) × (end_of rs ≤ 512 * m.sectors)

-- the records of the text are written, and noted in the entries; or one of them is refused
abbrev pub PutsRecords : Meaning → List ℕ → Result ℕ FileFault → Meaning → List Entry → List Entry → Type 0
PutsRecords m t (Ok end) n es fs = (rs : List Record) × TextOf t rs × (end ≡ end_of rs) × Completed m 2048 (flat_map record_bytes rs) n × (fs ≡ entries_from 2048 rs)
PutsRecords m t (Err x) n es fs = (rs : List Record) × TextOf t rs × RecordStopped m es rs x n fs
