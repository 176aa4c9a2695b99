-- Lookups along a history.
use Rattle.std.specs.Prelude.{◌≡◌, ℕ, List, [], ◌∷◌, ◌++◌, Ok, Err}
use Rattle.faults.specs.declared.file.FileFault.{FileFault}
use Rattle.device.specs.Meanings.{Meaning}
use Rattle.cdb.specs.Records.{Record}
use Rattle.file.specs.declared.extents.Extent.{Extent}
use Rattle.file.specs.Extents.{Readable}
use Rattle.lookup.specs.declared.cursors.Cursor.{Cursor}
use Rattle.lookup.specs.Starts.{Start}
use Rattle.lookup_runs.specs.declared.calls.Call as calls
use Rattle.lookup_runs.specs.Runs as runs
use Rattle.lookup_runs.specs.Laws.{Gives, wrote}
use Rattle.shelf.specs.States.{Live, LiveExtent}
use Rattle.shelf.specs.Drafts.{Between}
use Rattle.history.specs.declared.calls.State.{State}
use Rattle.history.specs.declared.calls.State.TheVariants.{Ended}
use Rattle.history.specs.declared.calls.Answer.{Answer}
use Rattle.history.specs.Events.{Request, Event, event, Quiet, Published}
use Rattle.history.specs.Histories.{Step, Remounts, History}
use Rattle.history.specs.Laws.{Rooted}

-- a history goes on from a device and a state to others without a publication
pub data Onward (m : Meaning) (s : State) : Meaning → State → Type 0 where
  still : Onward m s m s
  moves : {n k : Meaning} {t u : State} {c : Request} {a : Answer} → Onward m s n t → Step n t c a u k → Quiet (event c a) → Onward m s k u
  meanwhile : {n k : Meaning} {t : State} → Onward m s n t → Between n k → Onward m s k t
  remounted : {n k : Meaning} {t : State} → Onward m s n t → Remounts n k → Onward m s k Ended

-- the calls of a lookup of a key in an extent, from a cursor and a buffer on, with steps of a history between them that are no publication;
-- each call is made while the extent can be read
pub data Along (e : Extent) (key : List ℕ) (c : Cursor) (b : List ℕ) (m : Meaning) (s : State)
    : List calls.Call → List runs.Event → Cursor → List ℕ → Meaning → State → Type 0 where
  none : Along e key c b m s [] [] c b m s
  onward : {ks : List calls.Call} {es : List runs.Event} {c1 : Cursor} {b1 : List ℕ} {n k : Meaning} {t u : State}
      → Along e key c b m s ks es c1 b1 n t → Onward n t k u → Along e key c b m s ks es c1 b1 k u
  looks : {ks : List calls.Call} {es : List runs.Event} {c1 c2 : Cursor} {b1 b2 : List ℕ} {n : Meaning} {t : State} (k : calls.Call) (ev : runs.Event)
      → Along e key c b m s ks es c1 b1 n t → Readable n e → runs.AtCall n e key (runs.log es) c1 b1 k ev c2 b2
      → Along e key c b m s (ks ++ k ∷ []) (es ++ ev ∷ []) c2 b2 n t

-- the extent of the live file
pub record LiveAt (m : Meaning) (e : Extent) : Type 0 where
  pub live : Live
  pub rooted : Rooted m live
  pub extent : LiveExtent live e

-- after a history, on the live extent while it can be read: a start is not refused, and the calls of the lookup, whatever they are and wherever they stand
-- up to the next publication, give the data of the published records with the key, in order
pub record GivesPublished (h : List Event) (m : Meaning) (s : State) (e : Extent) : Type 0 where
  pub draft : List Record
  pub records : List Record
  pub published : Published h draft records
  pub starts : (key : List ℕ) (f : FileFault) → Start m e key (Err f) → ⊥
  pub gives : (key : List ℕ) (c c' : Cursor) (b b' : List ℕ) (ks : List calls.Call) (es : List runs.Event) (n : Meaning) (t : State)
      → Start m e key (Ok c) → Along e key c b m s ks es c' b' n t → Gives records key es × (b' ≡ wrote es b)

abbrev pub LookupsGivePublished : Type 0
LookupsGivePublished =
    (m n : Meaning) (h : List Event) (s : State) (e : Extent) → History m h s n → LiveAt n e → Readable n e → GivesPublished h n s e
