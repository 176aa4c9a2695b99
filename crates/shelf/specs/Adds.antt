-- What add does.
use Rattle.std.specs.Prelude.{◌≡◌, ℕ, ◌+◌, ◌*◌, ◌<◌, ◌≤◌, List, length, Ok, Err, Result, ◌≢◌, slice_set}
use Rattle.faults.specs.declared.device.DeviceFault.{DeviceFault}
use Rattle.faults.specs.Reports.{located}
use Rattle.device.specs.Meanings.{Meaning}
use Rattle.cdb.specs.Records.{Record, record_bytes, size, hash_of}
use Rattle.writing.specs.Runs.{Completed, Interrupted, at_place}
use Rattle.building.specs.declared.entries.Entry.{Entry}
use Rattle.shelf.specs.declared.fault.ShelfFault.{ShelfFault}
use Rattle.shelf.specs.declared.fault.ShelfFault.TheVariants.{File, Size, NoRoot, Entries, Full, Small}
use Rattle.shelf.specs.declared.refusals.Refused.{Refused}
use Rattle.shelf.specs.declared.states.Draft.{Draft}
use Rattle.shelf.specs.States.{live_at_draft, file_start, file_room, Added}

-- where the next record of a draft goes on the device
abbrev pub next_place : Draft → ℕ
next_place d = file_start (live_at_draft d) + d.position

-- how many bytes the file of a draft has with one more record, its tables included
abbrev pub needed : Draft → Record → ℕ
needed d r = d.position + size r + 16 * (d.records + 1)

-- the entry of the next record
abbrev pub entry_of : Draft → Record → Entry
entry_of d r = record { hash = hash_of r.key; place = d.position }

-- the device has the draft's size, one of so many entries is left, and the record fits: only the device can refuse
pub record Fits (m : Meaning) (d : Draft) (entries : ℕ) (r : Record) : Type 0 where
  pub same : m.sectors ≡ d.live.sectors
  pub left : d.records < entries
  pub room : needed d r ≤ file_room (live_at_draft d)

-- refused in the order 11, 24, 25, then by the device, which may have changed bytes from the draft's position on
abbrev pub AddStopped : Meaning → Draft → ℕ → Record → ShelfFault → Meaning → Type 0
AddStopped m d entries r Size n = (m.sectors ≢ d.live.sectors) × (n ≡ m)
AddStopped m d entries r Entries n = (m.sectors ≡ d.live.sectors) × (entries ≤ d.records) × (n ≡ m)
AddStopped m d entries r Full n = (m.sectors ≡ d.live.sectors) × (d.records < entries) × (file_room (live_at_draft d) < needed d r) × (n ≡ m)
AddStopped m d entries r (File x) n =
    Fits m d entries r
    × (f : DeviceFault) × (x ≡ located (at_place f d.position) 256 (file_start (live_at_draft d))) × Interrupted m (next_place d) (size r) f n
AddStopped m d entries r NoRoot n = ⊥
AddStopped m d entries r Small n = ⊥

-- done: the record stands at the draft's position, and its hash and place in the next entry;
-- refused: the draft comes back, and the entries are as before
abbrev pub Adds : Meaning → Draft → List Entry → Record → Result Draft (Refused Draft) → Meaning → List Entry → Type 0
Adds m d es r (Ok e) n fs = Fits m d (length es) r × Completed m (next_place d) (record_bytes r) n × Added d r e × (fs ≡ slice_set es d.records (entry_of d r))
Adds m d es r (Err x) n fs = AddStopped m d (length es) r x.fault n × (x.draft ≡ d) × (fs ≡ es)
