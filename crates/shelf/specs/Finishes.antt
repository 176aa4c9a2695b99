-- What finish does.
use Rattle.std.specs.Prelude.{◌≡◌, ℕ, ◌<◌, ◌≤◌, List, length, take, Ok, Err, Result, ◌≢◌}
use Rattle.faults.specs.declared.file.FileFault.{FileFault}
use Rattle.faults.specs.declared.file.Located.{Located}
use Rattle.faults.specs.Reports.{located}
use Rattle.device.specs.Meanings.{Meaning}
use Rattle.building.specs.declared.entries.Entry.{Entry}
use Rattle.building.specs.Closes.{Closed, Closes}
use Rattle.shelf.specs.declared.fault.ShelfFault.{ShelfFault}
use Rattle.shelf.specs.declared.fault.ShelfFault.TheVariants.{File, Size, NoRoot, Entries, Full, Small}
use Rattle.shelf.specs.declared.refusals.Refused.{Refused}
use Rattle.shelf.specs.declared.states.Draft.{Draft}
use Rattle.shelf.specs.declared.states.Finished.{Finished}
use Rattle.shelf.specs.States.{live_at_draft, file_start, Ended}

-- one entry for each record of the draft, from the first on
abbrev pub entries_of : Draft → List Entry → List Entry
entries_of d es = take d.records es

-- the tables and the header of the file at a place are refused by the device
pub record CloseStopped (m : Meaning) (start position : ℕ) (es : List Entry) (x : Located FileFault) (n : Meaning) : Type 0 where
  pub fault : FileFault
  pub is : x ≡ located fault 256 start
  pub closes : Closes m start position es (Err fault) n

-- refused in the order 11, 24, then by the device
abbrev pub FinishStopped : Meaning → Draft → List Entry → ShelfFault → Meaning → Type 0
FinishStopped m d es Size n = (m.sectors ≢ d.live.sectors) × (n ≡ m)
FinishStopped m d es Entries n = (m.sectors ≡ d.live.sectors) × (length es < d.records) × (n ≡ m)
FinishStopped m d es (File x) n =
    (m.sectors ≡ d.live.sectors) × (d.records ≤ length es) × CloseStopped m (file_start (live_at_draft d)) d.position (entries_of d es) x n
FinishStopped m d es NoRoot n = ⊥
FinishStopped m d es Full n = ⊥
FinishStopped m d es Small n = ⊥

-- done: the draft's file has its tables and its header; refused: the draft comes back, open for adding
abbrev pub Finishes : Meaning → Draft → List Entry → Result Finished (Refused Draft) → Meaning → Type 0
Finishes m d es (Ok f) n = (m.sectors ≡ d.live.sectors) × (d.records ≤ length es) × Closed m (file_start (live_at_draft d)) d.position (entries_of d es) n × Ended d f
Finishes m d es (Err x) n = FinishStopped m d es x.fault n × (x.draft ≡ d)
