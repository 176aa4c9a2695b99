-- What publish does.
use Rattle.std.specs.Prelude.{◌≡◌, ℕ, Bool, cond, ◌⊎◌, List, Some, None, Ok, Err, Option, Result, ◌==◌, ◌≢◌}
use Rattle.faults.specs.declared.device.DeviceFault.{DeviceFault}
use Rattle.faults.specs.declared.file.FileFault.{FileFault}
use Rattle.faults.specs.declared.file.Located.{Located}
use Rattle.faults.specs.Reports.{located}
use Rattle.device.specs.Meanings.{Meaning, Written}
use Rattle.file.specs.declared.extents.Extent.{Extent}
use Rattle.auditing.specs.declared.audits.Counts.{Counts}
use Rattle.auditing.specs.Audits.{Audited}
use Rattle.areas.specs.Geometry.{other, root_bytes}
use Rattle.shelf.specs.declared.fault.ShelfFault.{ShelfFault}
use Rattle.shelf.specs.declared.fault.ShelfFault.TheVariants.{File, Size, NoRoot, Entries, Full, Small}
use Rattle.shelf.specs.declared.refusals.Refused.{Refused}
use Rattle.shelf.specs.declared.states.Shelf.{Shelf}
use Rattle.shelf.specs.declared.states.Finished.{Finished}
use Rattle.shelf.specs.Reports.{shelf_report, at_root}
use Rattle.shelf.specs.States.{Live, live_of, live_at_finished, file_start}

-- the live file, once a finished draft is published: the draft's area and length
abbrev pub live_after : Finished → Live
live_after f = record { sectors = f.live.sectors; area = other f.live.root.area; len = f.made }

-- the root that names it
abbrev pub next_root : Finished → List ℕ
next_root f = root_bytes (other f.live.root.area) f.made

-- the audit of the draft's file, on a device of the draft's size, answers r
pub record DraftAudited (m : Meaning) (f : Finished) (r : Result Counts FileFault) : Type 0 where
  pub same : m.sectors ≡ f.live.sectors
  pub extent : Extent
  pub start : extent.start ≡ file_start (live_at_finished f)
  pub len : extent.len ≡ f.made
  pub audited : Audited m extent r

-- the draft's file is accepted
abbrev pub Accepted : Meaning → Finished → Type 0
Accepted m f = (c : Counts) × DraftAudited m f (Ok c)

-- the audit refuses it, and nothing is written
abbrev pub NotAccepted : Meaning → Finished → Located FileFault → Meaning → Type 0
NotAccepted m f x n = (g : FileFault) × (x ≡ located g 256 (file_start (live_at_finished f))) × DraftAudited m f (Err g) × (n ≡ m)

-- it is accepted, and then the one write of the root is refused
abbrev pub NotSwitched : Meaning → Finished → Located FileFault → Meaning → Type 0
NotSwitched m f x n = (g : DeviceFault) × (x ≡ at_root g) × Accepted m f × Written m 0 (next_root f) (Err g) n

-- refused in the order 11, then as the audit refuses, then by the device at the root
abbrev pub PublishStopped : Meaning → Finished → ShelfFault → Meaning → Type 0
PublishStopped m f Size n = (m.sectors ≢ f.live.sectors) × (n ≡ m)
PublishStopped m f (File x) n = NotAccepted m f x n ⊎ NotSwitched m f x n
PublishStopped m f NoRoot n = ⊥
PublishStopped m f Entries n = ⊥
PublishStopped m f Full n = ⊥
PublishStopped m f Small n = ⊥

-- whether a refusal of publish ends the draft: 21 does
abbrev pub ends_draft : ShelfFault → Bool
ends_draft x = (shelf_report x).number == 21

-- the draft that comes back
abbrev pub given_back : ShelfFault → Finished → Option Finished
given_back x f = cond (ends_draft x) None (Some f)

-- done: the file is accepted, and one write has put the root that names it; refused: the finished draft comes back, unless power is off
abbrev pub Publishes : Meaning → Finished → Result Shelf (Refused (Option Finished)) → Meaning → Type 0
Publishes m f (Ok s) n = Accepted m f × Written m 0 (next_root f) (Ok tt) n × (live_of s ≡ live_after f)
Publishes m f (Err x) n = PublishStopped m f x.fault n × (x.draft ≡ given_back x.fault f)
