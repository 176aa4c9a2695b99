-- The laws of runs.
use Rattle.std.specs.Prelude.{◌≡◌, ℕ, List, take, Some, None, Ok, Err, Option, Result}
use Rattle.std.specs.Global.{Vec}
use Rattle.faults.specs.declared.file.FileFault.{FileFault}
use Rattle.std.specs.declared.alloc.AllocError.{AllocError}
use Rattle.device.specs.Meanings.{Meaning}
use Rattle.cdb.specs.Records.{Record}
use Rattle.file.specs.declared.extents.Extent.{Extent}
use Rattle.file.specs.Extents.{Readable}
use Rattle.gathering.specs.Gathers.{data_with, bytes_of}
use Rattle.building.specs.declared.entries.Entry.{Entry}
use Rattle.history.specs.declared.calls.State.{State}
use Rattle.history.specs.Events.{Event, Published}
use Rattle.history.specs.Histories.{History}
use Rattle.playing.specs.declared.steps.Step.{Step}
use Rattle.playing.specs.declared.steps.Outcome.{Outcome}
use Rattle.playing.specs.declared.running.Ran.{Ran as Ran'}
use Rattle.playing.specs.Steps.{Turning, Shows, Looked}
use Rattle.playing.specs.Runs.{Ran}

-- these events are a history, which has left this state and this device
abbrev pub IsHistory : List Event → State → Meaning → Type 0
IsHistory h s m = (first : Meaning) × History first h s m

-- what has been going on since a format that was done is a history
abbrev pub GoingIsHistory : Option (List Event) → State → Meaning → Type 0
GoingIsHistory None s m = Unit {0}
GoingIsHistory (Some h) s m = IsHistory h s m

-- in every run, after each step, what has been going on since the last format that was done is a history
abbrev pub RunsAreHistories : {T : Type 0} → Turning T → Turning T → Type 0
RunsAreHistories {T} inside across =
    (m o : Meaning) (es : List Entry) (ks : List (Step T)) (rs : List Outcome) (h : Option (List Event)) (n p : Meaning) (s : State) (fs : List Entry)
    → Ran inside across m o es ks rs h n p s fs → GoingIsHistory h s n

-- steps were made one after the other, and answered this, whatever was going on then
abbrev pub RanTo : {T : Type 0} → Turning T → Turning T → Meaning → Meaning → List Entry → List (Step T) → List Outcome → Meaning → Meaning → State → List Entry → Type 0
RanTo inside across m o es ks rs n p s fs = (h : Option (List Event)) × Ran inside across m o es ks rs h n p s fs

-- so where memory ran out: the steps up to some step were made
abbrev pub RanSome : {T : Type 0} → Turning T → Turning T → Meaning → Meaning → List Entry → List (Step T) → Meaning → List Entry → Type 0
RanSome inside across m o es ks p fs = (k : ℕ) × (rs : List Outcome) × (n : Meaning) × (s : State) × RanTo inside across m o es (take k ks) rs n p s fs

-- what a run answers: all steps were made, and the log has what each answered; or memory ran out
abbrev pub Runs : {D T : Type 0} → Turning T → Turning T → (D → Meaning) → Meaning → Meaning → List Entry → List (Step T) → Result (Ran' D) AllocError → Meaning → List Entry → Type 0
Runs inside across meaning m o es ks (Ok r) p fs = RanTo inside across m o es ks r.log.items (meaning r.device) p r.state fs
Runs inside across meaning m o es ks (Err x) p fs = RanSome inside across m o es ks p fs

-- what a lookup answered is these data
abbrev pub IsData : Result (Vec (Vec ℕ)) FileFault → List (List ℕ) → Type 0
IsData (Ok all) ds = bytes_of all.items ≡ ds
IsData (Err f) ds = ⊥

-- the published records after a history; a lookup of any key gives their data
pub record GetsData (h : List Event) (m : Meaning) (e : Extent) : Type 0 where
  pub draft : List Record
  pub records : List Record
  pub published : Published h draft records
  pub gets : (key : List ℕ) (r : Result (Vec (Vec ℕ)) FileFault) → Looked m e key r → IsData r (data_with key records)

-- after every history, while the live file can be read, a lookup of all data of a key on the extent that the state tells gives the data of the published
-- records with the key, in order, and is not refused
abbrev pub GetsGivePublished : Type 0
GetsGivePublished = (m n : Meaning) (h : List Event) (s : State) (e : Extent) → History m h s n → Shows s (Some e) → Readable n e → GetsData h n e
