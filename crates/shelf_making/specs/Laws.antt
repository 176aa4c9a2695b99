-- What a make on a shelf leaves: the new file live, or the former one; and why it is refused.
use Rattle.std.specs.Prelude.{◌≡◌, ℕ, ◌<◌, ◌≤◌, true, false, ◌⊎◌, List, length, None, Ok, Err, Result, ◌≢◌}
use Rattle.byte_lists.specs.Bytes.{part}
use Rattle.faults.specs.declared.device.DeviceFault.{DeviceFault}
use Rattle.faults.specs.Reports.{located}
use Rattle.device.specs.Meanings.{Meaning, is_bad}
use Rattle.cdb.specs.Records.{Record}
use Rattle.cdb.specs.Rules.{Lawful}
use Rattle.writing.specs.Runs.{Touches, Outside, Keeps, at_place}
use Rattle.text.specs.Texts.{TextOf}
use Rattle.areas.specs.Geometry.{other}
use Rattle.shelf.specs.declared.fault.ShelfFault.{ShelfFault}
use Rattle.shelf.specs.declared.fault.ShelfFault.TheVariants.{File, Size, NoRoot, Entries, Full, Small}
use Rattle.shelf.specs.declared.states.Shelf as states
use Rattle.shelf.specs.States.{Live, live_of, file_start, file_room}
use Rattle.history.specs.Laws.{Rooted, live_file}
use Rattle.making.specs.Sizes.{made_length}
use Rattle.making.specs.Laws.{GivesBack, GivesText, Cause}
use Rattle.shelf_making.specs.declared.fault.ShelfMakeFault.{ShelfMakeFault}
use Rattle.shelf_making.specs.declared.fault.ShelfMakeFault.TheVariants as make
use Rattle.shelf_making.specs.declared.fault.MakeRefused.{MakeRefused}
use Rattle.shelf_making.specs.Reports.{make_report}
use Rattle.shelf_making.specs.Refusals.{ComesBack}

-- place k is not in the area that is not live
abbrev pub OutsideIdle : Live → ℕ → Type 0
OutsideIdle l k = Outside (file_start l) (file_room l) k

-- the root names a file in the area that was not live, which is lawful and has these records
pub record NewRoot (l : Live) (rs : List Record) (n : Meaning) (k : Live) : Type 0 where
  pub area : k.area ≡ other l.area
  pub len : k.len ≡ made_length rs
  pub rooted : Rooted n k
  pub lawful : Lawful (live_file n k) rs

-- done: this file is the live file of the shelf that is given, and gives the records back; but for the root, only the area that was not live changed;
-- there was an entry for each record, the file fits the area, power was on, and neither a sector of the file nor that of the root is bad
pub record Renewed (m : Meaning) (l : Live) (entries : ℕ) (rs : List Record) (n : Meaning) (s : states.Shelf) : Type 0 where
  pub root : NewRoot l rs n (live_of s)
  pub back : GivesBack (live_file n (live_of s)) rs
  pub keeps : Keeps m (λ k. (512 ≤ k) × OutsideIdle l k) n
  pub same : m.sectors ≡ l.sectors
  pub enough : length rs ≤ entries
  pub room : made_length rs ≤ file_room l
  pub on : m.power ≡ true
  pub good : (i : ℕ) → Touches (file_start l) (made_length rs) i → is_bad m i ≡ false
  pub root_good : is_bad m 0 ≡ false

-- refused, and the shelf comes back as it was: root and live file are unchanged
pub record Unchanged (m : Meaning) (l : Live) (n : Meaning) (x : MakeRefused) : Type 0 where
  pub shelf : ComesBack l x.shelf
  pub keeps : Keeps m (OutsideIdle l) n

-- refused with 21 at the root, after which no shelf comes back: the former root stands, or the new one
pub record CutAtRoot (m : Meaning) (l : Live) (rs : List Record) (n : Meaning) (x : MakeRefused) : Type 0 where
  pub fault : (make_report x.fault).number ≡ 21
  pub shelf : x.shelf ≡ None
  pub keeps : Keeps m (λ k. (512 ≤ k) × OutsideIdle l k) n
  pub root : (part n.bytes 0 512 ≡ part m.bytes 0 512) ⊎ ((k : Live) × NewRoot l rs n k)

-- what the shelf's live file was, it is until the root is written, and then it is the file of these records
abbrev pub KeepsLive : Meaning → states.Shelf → ℕ → List Record → Result states.Shelf MakeRefused → Meaning → Type 0
KeepsLive m s entries rs (Ok t) n = Renewed m (live_of s) entries rs n t
KeepsLive m s entries rs (Err x) n = Unchanged m (live_of s) n x ⊎ CutAtRoot m (live_of s) rs n x

-- so for the records of a text
abbrev pub KeepsLiveByText : Meaning → states.Shelf → ℕ → List ℕ → Result states.Shelf MakeRefused → Meaning → Type 0
KeepsLiveByText m s entries t r n = (rs : List Record) → TextOf t rs → KeepsLive m s entries rs r n

-- the live file gives the text that it was made from
abbrev pub GivesTheTextBack : List ℕ → Result states.Shelf MakeRefused → Meaning → Type 0
GivesTheTextBack t (Ok s) n = GivesText t (live_file n (live_of s))
GivesTheTextBack t (Err x) n = Unit {0}

-- why the shelf refuses: 11 if the device has another size, 24 if there are fewer entries than records, 25 if the file is longer than the area,
-- and what the device refuses has a cause in the file or in the root; nothing else refuses
abbrev pub ShelfCause : Meaning → Live → ℕ → List Record → ShelfFault → Meaning → Type 0
ShelfCause m l entries rs Size n = m.sectors ≢ l.sectors
ShelfCause m l entries rs Entries n = entries < length rs
ShelfCause m l entries rs Full n = file_room l < made_length rs
ShelfCause m l entries rs (File x) n =
    (m.sectors ≡ l.sectors)
    × ((f : DeviceFault) × (p : ℕ) × (start : ℕ) × (x ≡ located (at_place f p) 256 start) × (Cause m (file_start l) (made_length rs) n f ⊎ Cause m 0 512 n f))
ShelfCause m l entries rs NoRoot n = ⊥
ShelfCause m l entries rs Small n = ⊥

-- the cause of a make's refusal
abbrev pub FaultCause : Meaning → Live → ℕ → List Record → ShelfMakeFault → Meaning → Type 0
FaultCause m l entries rs (make.Text f) n = ⊥
FaultCause m l entries rs (make.Shelf f) n = ShelfCause m l entries rs f n

-- a refusal has its cause
abbrev pub RefusedForCause : Meaning → states.Shelf → ℕ → List Record → Result states.Shelf MakeRefused → Meaning → Type 0
RefusedForCause m s entries rs (Ok t) n = Unit {0}
RefusedForCause m s entries rs (Err x) n = FaultCause m (live_of s) entries rs x.fault n

-- so for the records of a text; what is no text has none
abbrev pub RefusedForCauseByText : Meaning → states.Shelf → ℕ → List ℕ → Result states.Shelf MakeRefused → Meaning → Type 0
RefusedForCauseByText m s entries t r n = (rs : List Record) → TextOf t rs → RefusedForCause m s entries rs r n
