-- What format does.
use Rattle.std.specs.Prelude.{◌≡◌, ℕ, ◌<◌, ◌≤◌, ◌⊎◌, List, ◌++◌, Ok, Err, Result}
use Rattle.faults.specs.declared.device.DeviceFault.{DeviceFault}
use Rattle.faults.specs.declared.file.FileFault.{FileFault}
use Rattle.faults.specs.declared.file.Located.{Located}
use Rattle.faults.specs.Reports.{located}
use Rattle.device.specs.Meanings.{Meaning, Written}
use Rattle.writing.specs.Runs.{Completed, Interrupted, at_place}
use Rattle.building.specs.Empty.{empty_file}
use Rattle.areas.specs.declared.area.Area.TheVariants.{Zero}
use Rattle.shelf.specs.declared.fault.ShelfFault.{ShelfFault}
use Rattle.shelf.specs.declared.fault.ShelfFault.TheVariants.{File, Size, NoRoot, Entries, Full, Small}
use Rattle.shelf.specs.declared.states.Shelf.{Shelf}
use Rattle.areas.specs.Geometry.{root_bytes}
use Rattle.shelf.specs.Reports.{at_root}
use Rattle.shelf.specs.States.{live_of}

-- the root of a new shelf: the file without records is live, in area 0
abbrev pub new_root : List ℕ
new_root = root_bytes Zero 2048

-- the file is written, and then the root is refused
pub record RootRefused (m : Meaning) (f : DeviceFault) (n : Meaning) : Type 0 where
  pub between : Meaning
  pub file : Completed m 512 empty_file between
  pub refused : Written between 0 new_root (Err f) n

-- refused by the device, in the file or at the root
abbrev pub FormatStopped : Meaning → Located FileFault → Meaning → Type 0
FormatStopped m x n = (f : DeviceFault) × (((x ≡ located (at_place f 0) 256 512) × Interrupted m 512 2048 f n) ⊎ ((x ≡ at_root f) × RootRefused m f n))

-- done: root and file stand one behind the other, from place 0 on; refused with 28 on fewer than 9 sectors, then by the device
abbrev pub Formats : Meaning → Result Shelf ShelfFault → Meaning → Type 0
Formats m (Ok s) n =
    (9 ≤ m.sectors) × (live_of s ≡ record { sectors = m.sectors; area = Zero; len = 2048 }) × Completed m 0 (new_root ++ empty_file) n
Formats m (Err Small) n = (m.sectors < 9) × (n ≡ m)
Formats m (Err (File x)) n = (9 ≤ m.sectors) × FormatStopped m x n
Formats m (Err Size) n = ⊥
Formats m (Err NoRoot) n = ⊥
Formats m (Err Entries) n = ⊥
Formats m (Err Full) n = ⊥
