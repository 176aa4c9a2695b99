-- What start answers.
use Rattle.std.specs.Prelude.{ℕ, ◌+◌, ◌*◌, ◌<◌, ◌≤◌, List, Ok, Err, Result}
use Rattle.faults.specs.declared.device.DeviceFault.{DeviceFault}
use Rattle.faults.specs.declared.file.FileFault.{FileFault}
use Rattle.faults.specs.declared.file.FileFault.TheVariants.{Range, Short, Device}
use Rattle.faults.specs.Reports.{located}
use Rattle.device.specs.Meanings.{Meaning}
use Rattle.cdb.specs.Records.{hash_of, table_of}
use Rattle.cdb.specs.Files.{position, slot_count}
use Rattle.file.specs.declared.extents.Extent.{Extent}
use Rattle.file.specs.Ranges.{AllRead, FirstBad}
use Rattle.file.specs.Extents.{On, file}
use Rattle.lookup.specs.declared.cursors.Cursor.{Cursor}

-- where the header entry of a key's table stands
abbrev pub entry_place : List ℕ → ℕ
entry_place key = 8 * table_of key

-- the cursor of a key that has probed no slot
abbrev pub fresh : Meaning → Extent → List ℕ → Cursor
fresh m e key =
    record { extent = e; hash = hash_of key; position = position (file m e) (table_of key); slots = slot_count (file m e) (table_of key); probed = 0 }

-- what start answers: the extent's range first, then its length, then the header entry
pub data Start (m : Meaning) (e : Extent) (key : List ℕ) : Result Cursor FileFault → Type 0 where
  outside : (On m e → ⊥) → Start m e key (Err Range)
  short : On m e → e.len < 2048 → Start m e key (Err (Short e.len))
  entry_bad : {f : DeviceFault} → On m e → 2048 ≤ e.len → FirstBad m (e.start + entry_place key) 8 f
      → Start m e key (Err (Device (located f (table_of key) (entry_place key))))
  started : On m e → 2048 ≤ e.len → AllRead m (e.start + entry_place key) 8 → Start m e key (Ok (fresh m e key))
