-- The laws of histories.
use Rattle.std.specs.Prelude.{◌≡◌, ℕ, ◌⊎◌, List, Err}
use Rattle.byte_lists.specs.Bytes.{part}
use Rattle.device.specs.Meanings.{Meaning}
use Rattle.cdb.specs.Records.{Record}
use Rattle.cdb.specs.Rules.{Lawful}
use Rattle.areas.specs.Geometry.{area_start}
use Rattle.areas.specs.Roots.{Names}
use Rattle.shelf.specs.declared.fault.ShelfFault.{ShelfFault}
use Rattle.shelf.specs.Reports.{shelf_report}
use Rattle.shelf.specs.States.{Live, live_of, live_at_draft, live_at_finished}
use Rattle.shelf.specs.Opens.{Opens}
use Rattle.history.specs.declared.calls.State.{State}
use Rattle.history.specs.declared.calls.State.TheVariants.{Idle, Adding, Ready, Ended}
use Rattle.history.specs.declared.calls.Answer.{Answer}
use Rattle.history.specs.Events.{Request, Event, event, Quiet, Published}
use Rattle.history.specs.Histories.{Step, Remounts, History}

-- the root on a device names this live file
pub record Rooted (m : Meaning) (l : Live) : Type 0 where
  pub sectors : l.sectors ≡ m.sectors
  pub names : Names m l.area l.len

-- its bytes
abbrev pub live_file : Meaning → Live → List ℕ
live_file m l = part m.bytes (area_start l.sectors l.area) l.len

-- a state tells this live file
abbrev pub Tells : State → Live → Type 0
Tells (Idle s) l = live_of s ≡ l
Tells (Adding d) l = live_at_draft d ≡ l
Tells (Ready f) l = live_at_finished f ≡ l
Tells Ended l = Unit {0}

-- the root names a live file, which the state tells; it is lawful, and its records are the published ones, in order
pub record KeepsPublished (h : List Event) (s : State) (m : Meaning) : Type 0 where
  pub draft : List Record
  pub records : List Record
  pub published : Published h draft records
  pub live : Live
  pub rooted : Rooted m live
  pub told : Tells s live
  pub lawful : Lawful (live_file m live) records

-- after every history
abbrev pub HistoriesKeepPublished : Type 0
HistoriesKeepPublished = (m n : Meaning) (h : List Event) (s : State) → History m h s n → KeepsPublished h s n

-- outside publications no call, refused or cut short, changes which file is live, or a byte of it
abbrev pub OnlyPublicationsChangeLive : Type 0
OnlyPublicationsChangeLive =
    (m n k : Meaning) (h : List Event) (s t : State) (c : Request) (a : Answer) (l : Live)
    → History m h s n → Step n s c a t k → Quiet (event c a) → Rooted n l → Rooted k l × (live_file k l ≡ live_file n l)

-- whenever the device is mounted again, only a device's fault at the root can refuse an open: 21 or 22
abbrev pub OpenFindsTheShelf : Type 0
OpenFindsTheShelf =
    (m n k : Meaning) (h : List Event) (s : State) (x : ShelfFault)
    → History m h s n → Remounts n k → Opens k (Err x) → ((shelf_report x).number ≡ 21) ⊎ ((shelf_report x).number ≡ 22)
