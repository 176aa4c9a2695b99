-- The states of a shelf, and how a call turns one into the next.
use Rattle.std.specs.Prelude.{◌≡◌, ℕ, ◌+◌, ◌*◌}
use Rattle.cdb.specs.Records.{Record, size}
use Rattle.file.specs.declared.extents.Extent.{Extent}
use Rattle.areas.specs.declared.area.Area.{Area}
use Rattle.shelf.specs.declared.live.LiveFile.{LiveFile}
use Rattle.shelf.specs.declared.states.Shelf.{Shelf}
use Rattle.shelf.specs.declared.states.Draft.{Draft}
use Rattle.shelf.specs.declared.states.Finished.{Finished}
use Rattle.areas.specs.Geometry.{other, area_start, area_size}

-- what every state knows of the live file: the sectors of the device, the live area and the live length
pub record Live : Type 0 where
  pub sectors : ℕ
  pub area : Area
  pub len : ℕ

abbrev pub live_in : LiveFile → Live
live_in l = record { sectors = l.sectors; area = l.root.area; len = l.root.len }

abbrev pub live_of : Shelf → Live
live_of s = live_in s.live

abbrev pub live_at_draft : Draft → Live
live_at_draft d = live_in d.live

abbrev pub live_at_finished : Finished → Live
live_at_finished f = live_in f.live

-- the extent of the live file
abbrev pub LiveExtent : Live → Extent → Type 0
LiveExtent l e = (e.start ≡ area_start l.sectors l.area) × (e.len ≡ l.len)

-- where the file of a draft starts on the device: the draft is in the area that is not live
abbrev pub file_start : Live → ℕ
file_start l = area_start l.sectors (other l.area)

-- how many bytes the file of a draft may have
abbrev pub file_room : Live → ℕ
file_room l = area_size l.sectors (other l.area)

-- a new draft: its next record goes behind the header, and it has none
pub record Begun (s : Shelf) (d : Draft) : Type 0 where
  pub live : live_at_draft d ≡ live_of s
  pub position : d.position ≡ 2048
  pub records : d.records ≡ 0

-- a draft with one more record
pub record Added (d : Draft) (r : Record) (e : Draft) : Type 0 where
  pub live : live_at_draft e ≡ live_at_draft d
  pub position : e.position ≡ d.position + size r
  pub records : e.records ≡ d.records + 1

-- a draft with its tables and its header: each record has two slots
pub record Ended (d : Draft) (f : Finished) : Type 0 where
  pub live : live_at_finished f ≡ live_at_draft d
  pub made : f.made ≡ d.position + 16 * d.records
