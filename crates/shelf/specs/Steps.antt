-- The inner steps of the calls.
use Rattle.std.specs.Prelude.{◌≡◌, ℕ, ◌≤◌, List, ◌++◌, length, Ok, Err, Result}
use Rattle.faults.specs.declared.device.DeviceFault.{DeviceFault}
use Rattle.faults.specs.declared.file.FileFault.{FileFault}
use Rattle.faults.specs.declared.file.Located.{Located}
use Rattle.faults.specs.Reports.{located}
use Rattle.device.specs.Meanings.{Meaning, Written}
use Rattle.cdb.specs.Records.{Record, record_bytes}
use Rattle.writing.specs.Runs.{Completed}
use Rattle.auditing.specs.declared.audits.Counts.{Counts}
use Rattle.building.specs.declared.entries.Entry.{Entry}
use Rattle.building.specs.Closes.{Closed}
use Rattle.building.specs.Empty.{empty_file}
use Rattle.shelf.specs.declared.fault.ShelfFault.{ShelfFault}
use Rattle.shelf.specs.declared.fault.ShelfFault.TheVariants.{File, Size, NoRoot, Entries, Full, Small}
use Rattle.shelf.specs.declared.states.Draft.{Draft}
use Rattle.shelf.specs.declared.states.Finished.{Finished}
use Rattle.shelf.specs.States.{live_at_draft, live_at_finished, file_start}
use Rattle.shelf.specs.Formats.{new_root, FormatStopped}
use Rattle.shelf.specs.Adds.{next_place, Fits, AddStopped}
use Rattle.shelf.specs.Finishes.{entries_of, CloseStopped, FinishStopped}
use Rattle.shelf.specs.Reports.{at_root}
use Rattle.shelf.specs.Publishes.{next_root, DraftAudited, Accepted, PublishStopped}

-- the record is written, or refused
abbrev pub Stores : Meaning → Draft → ℕ → Record → Result (Unit {0}) ShelfFault → Meaning → Type 0
Stores m d entries r (Ok _) n = Fits m d entries r × Completed m (next_place d) (record_bytes r) n
Stores m d entries r (Err x) n = AddStopped m d entries r x n

-- the tables and the header are written, or refused
abbrev pub EndsFile : Meaning → Draft → List Entry → Result (Unit {0}) ShelfFault → Meaning → Type 0
EndsFile m d es (Ok _) n = (m.sectors ≡ d.live.sectors) × (d.records ≤ length es) × Closed m (file_start (live_at_draft d)) d.position (entries_of d es) n
EndsFile m d es (Err x) n = FinishStopped m d es x n

-- the tables and the header of the file at a place are written, or refused by the device
abbrev pub ClosesFile : Meaning → ℕ → ℕ → List Entry → Result (Unit {0}) (Located FileFault) → Meaning → Type 0
ClosesFile m start position es (Ok _) n = Closed m start position es n
ClosesFile m start position es (Err x) n = CloseStopped m start position es x n

-- the file without records and the root are written, or refused by the device
abbrev pub WritesShelf : Meaning → Result (Unit {0}) ShelfFault → Meaning → Type 0
WritesShelf m (Ok _) n = Completed m 0 (new_root ++ empty_file) n
WritesShelf m (Err (File x)) n = FormatStopped m x n
WritesShelf m (Err Size) n = ⊥
WritesShelf m (Err NoRoot) n = ⊥
WritesShelf m (Err Entries) n = ⊥
WritesShelf m (Err Full) n = ⊥
WritesShelf m (Err Small) n = ⊥

-- the draft's file is audited
abbrev pub AuditsDraft : Meaning → Finished → Result Counts (Located FileFault) → Type 0
AuditsDraft m f (Ok c) = DraftAudited m f (Ok c)
AuditsDraft m f (Err x) = (g : FileFault) × (x ≡ located g 256 (file_start (live_at_finished f))) × DraftAudited m f (Err g)

-- its root is written, or refused by the device
abbrev pub WritesNextRoot : Meaning → Finished → Result (Unit {0}) (Located FileFault) → Meaning → Type 0
WritesNextRoot m f (Ok _) n = Written m 0 (next_root f) (Ok tt) n
WritesNextRoot m f (Err x) n = (g : DeviceFault) × (x ≡ at_root g) × Written m 0 (next_root f) (Err g) n

-- the draft's file is accepted and its root written, or refused
abbrev pub Switches : Meaning → Finished → Result (Unit {0}) ShelfFault → Meaning → Type 0
Switches m f (Ok _) n = Accepted m f × Written m 0 (next_root f) (Ok tt) n
Switches m f (Err x) n = PublishStopped m f x n
