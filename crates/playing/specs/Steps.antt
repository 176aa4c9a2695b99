-- What one step of a run does: to the device of the shelf, to a device of another size, to the state and to the entry memory.
use Rattle.std.specs.Prelude.{ℕ, List, Some, None, Ok, Err, Option, Result, ◌≢◌, slice_set}
use Rattle.std.specs.Borrow.{Bor}
use Rattle.std.specs.Global.{Vec}
use Rattle.faults.specs.declared.report.Report.{Report}
use Rattle.faults.specs.declared.file.FileFault.{FileFault}
use Rattle.device.specs.Meanings.{Meaning, Whole}
use Rattle.file.specs.declared.extents.Extent.{Extent}
use Rattle.gathering.specs.Gathers.{Gathered, bytes_of}
use Rattle.building.specs.declared.entries.Entry.{Entry}
use Rattle.shelf.specs.declared.fault.ShelfFault.{ShelfFault}
use Rattle.shelf.specs.declared.states.Shelf.{Shelf}
use Rattle.shelf.specs.States.{LiveExtent, live_of, live_at_draft, live_at_finished}
use Rattle.shelf.specs.Formats.{Formats}
use Rattle.history.specs.declared.calls.State.{State}
use Rattle.history.specs.declared.calls.State.TheVariants.{Idle, Adding, Ready, Ended}
use Rattle.history.specs.declared.calls.Call as calls
use Rattle.history.specs.declared.calls.Answer.{Answer}
use Rattle.history.specs.declared.calls.Answer.TheVariants.{Done, Refused}
use Rattle.history.specs.Events.{request, to_open}
use Rattle.history.specs.Histories.{Moves}
use Rattle.playing.specs.declared.steps.Step.{Step}
use Rattle.playing.specs.declared.steps.Step.TheVariants as step
use Rattle.playing.specs.declared.steps.Outcome.{Outcome}
use Rattle.playing.specs.declared.steps.Outcome.TheVariants.{Answered, Got, Turned, Scribbled, Skipped}

-- the extent of the live file that a state tells; where a mount has ended there is none
abbrev pub Shows : State → Option Extent → Type 0
Shows (Idle s) (Some e) = LiveExtent (live_of s) e
Shows (Idle s) None = ⊥
Shows (Adding d) (Some e) = LiveExtent (live_at_draft d) e
Shows (Adding d) None = ⊥
Shows (Ready f) (Some e) = LiveExtent (live_at_finished f) e
Shows (Ready f) None = ⊥
Shows Ended (Some e) = ⊥
Shows Ended None = Unit {0}

-- a lookup of all data of a key in an extent answers this
abbrev pub Looked : Meaning → Extent → List ℕ → Result (Vec (Vec ℕ)) FileFault → Type 0
Looked m e key (Ok all) = Gathered m e key (Ok (bytes_of all.items))
Looked m e key (Err f) = Gathered m e key (Err f)

-- a call is made on the other device if it is no open and that device has another size
abbrev pub Elsewhere : Meaning → Meaning → calls.Call → Type 0
Elsewhere m o x = (request x ≢ to_open) × (o.sectors ≢ m.sectors)

-- what a turn does to a device's meaning, and what is answered
abbrev pub Turning : Type 0 → Type 1
Turning T = T → Meaning → Result (Unit {0}) Report → Meaning → Type 0

-- one step, on a device to which turns do so inside a mount, and so between two mounts: the device m, the other device o, the state s and the entries es before, what was answered, and all four after
pub data Happens {T : Type 0} (inside across : Turning T) (m o : Meaning) (s : State) (es : List Entry) : Step T → Outcome → (n p : Meaning) → State → List Entry → Type 0 where
  formatted : {n : Meaning} {t : Shelf} → Whole n → Formats m (Ok t) n → Happens inside across m o s es step.Format (Answered Done) n o (Idle t) es
  format_refused : {n : Meaning} {x : ShelfFault} → Formats m (Err x) n → Happens inside across m o s es step.Format (Answered (Refused x)) n o Ended es
  called : {n : Meaning} {x : calls.Call} {a : Answer} {t : State} {fs : List Entry}
      → Moves m s es (request x) a t n fs → Happens inside across m o s es (step.Call x) (Answered a) n o t fs
  called_elsewhere : {p : Meaning} {x : calls.Call} {a : Answer} {t : State} {fs : List Entry}
      → Elsewhere m o x → Moves o s es (request x) a t p fs → Happens inside across m o s es (step.Elsewhere x) (Answered a) m p t fs
  not_elsewhere : {x : calls.Call} → (Elsewhere m o x → ⊥) → Happens inside across m o s es (step.Elsewhere x) Skipped m o s es
  looked : {key : Bor (List ℕ)} {r : Result (Vec (Vec ℕ)) FileFault} (e : Extent) → Shows s (Some e) → Looked m e key.now r → Happens inside across m o s es (step.Get key) (Got r) m o s es
  nothing_live : {key : Bor (List ℕ)} → Shows s None → Happens inside across m o s es (step.Get key) Skipped m o s es
  turned : {n : Meaning} {t : T} {a : Result (Unit {0}) Report} → inside t m a n → Happens inside across m o s es (step.Turn t) (Turned a) n o s es
  remounted : {n : Meaning} {t : T} {a : Result (Unit {0}) Report} → across t m a n → Happens inside across m o s es (step.Remount t) (Turned a) n o Ended es
  scribbled : {i : ℕ} {x : Entry} → Happens inside across m o s es (step.Scribble i x) Scribbled m o s (slice_set es i x)
