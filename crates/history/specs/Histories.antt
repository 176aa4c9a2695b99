-- Histories of a shelf: a format that is done, then calls, and what becomes of the device between them.
use Rattle.std.specs.Prelude.{◌≡◌, false, List, [], ◌∷◌, ◌++◌, Some, None, Ok, Err, Option, ◌≢◌}
use Rattle.device.specs.Meanings.{Meaning, Whole}
use Rattle.cdb.specs.Records.{Record}
use Rattle.building.specs.declared.entries.Entry.{Entry}
use Rattle.shelf.specs.declared.fault.ShelfFault.{ShelfFault}
use Rattle.shelf.specs.declared.refusals.Refused.{Refused as RefusedCall}
use Rattle.shelf.specs.declared.states.Shelf.{Shelf}
use Rattle.shelf.specs.declared.states.Draft.{Draft}
use Rattle.shelf.specs.declared.states.Finished.{Finished}
use Rattle.shelf.specs.States.{live_of, live_at_draft, live_at_finished, Begun}
use Rattle.shelf.specs.Formats.{Formats}
use Rattle.shelf.specs.Opens.{Opens}
use Rattle.shelf.specs.Adds.{Adds}
use Rattle.shelf.specs.Finishes.{Finishes}
use Rattle.shelf.specs.Publishes.{Publishes}
use Rattle.shelf.specs.Drafts.{Between}
use Rattle.history.specs.declared.calls.State.{State}
use Rattle.history.specs.declared.calls.State.TheVariants.{Idle, Adding, Ready, Ended}
use Rattle.history.specs.declared.calls.Answer.{Answer}
use Rattle.history.specs.declared.calls.Answer.TheVariants.{Done, Refused, Unfit}
use Rattle.history.specs.Events.{Request, to_open, to_begin, to_add, to_finish, to_publish, to_abandon, builds, Event, event}

-- the state after a refused publish
abbrev pub back_to : Option Finished → State
back_to (Some f) = Ready f
back_to None = Ended

-- one call on a state, on the device and with the entry memory handed in, its answer, and state, device and entry memory then, by what the calls' own
-- contracts say
pub data Moves : Meaning → State → List Entry → Request → Answer → State → Meaning → List Entry → Type 0 where
  opened : {m : Meaning} {s : State} {es : List Entry} {t : Shelf} → Opens m (Ok t) → Moves m s es to_open Done (Idle t) m es
  open_refused : {m : Meaning} {s : State} {es : List Entry} {x : ShelfFault} → Opens m (Err x) → Moves m s es to_open (Refused x) Ended m es
  begun : {m : Meaning} {es : List Entry} {s : Shelf} {d : Draft} → Begun s d → Moves m (Idle s) es to_begin Done (Adding d) m es
  record_added : {m n : Meaning} {es fs : List Entry} {d e : Draft} {r : Record}
      → Adds m d es r (Ok e) n fs → Moves m (Adding d) es (to_add r) Done (Adding e) n fs
  add_refused : {m n : Meaning} {es fs : List Entry} {d : Draft} {r : Record} (x : RefusedCall Draft)
      → Adds m d es r (Err x) n fs → Moves m (Adding d) es (to_add r) (Refused x.fault) (Adding x.draft) n fs
  finished : {m n : Meaning} {es : List Entry} {d : Draft} {f : Finished}
      → Finishes m d es (Ok f) n → Moves m (Adding d) es to_finish Done (Ready f) n es
  finish_refused : {m n : Meaning} {es : List Entry} {d : Draft} (x : RefusedCall Draft)
      → Finishes m d es (Err x) n → Moves m (Adding d) es to_finish (Refused x.fault) (Adding x.draft) n es
  draft_published : {m n : Meaning} {es : List Entry} {f : Finished} {s : Shelf}
      → Publishes m f (Ok s) n → Moves m (Ready f) es to_publish Done (Idle s) n es
  publish_refused : {m n : Meaning} {es : List Entry} {f : Finished} (x : RefusedCall (Option Finished))
      → Publishes m f (Err x) n → Moves m (Ready f) es to_publish (Refused x.fault) (back_to x.draft) n es
  draft_abandoned : {m : Meaning} {es : List Entry} {d : Draft} {s : Shelf} → live_of s ≡ live_at_draft d → Moves m (Adding d) es to_abandon Done (Idle s) m es
  finished_abandoned : {m : Meaning} {es : List Entry} {f : Finished} {s : Shelf} → live_of s ≡ live_at_finished f → Moves m (Ready f) es to_abandon Done (Idle s) m es
  unfit : {m : Meaning} {s : State} {es : List Entry} {c : Request} → builds s c ≡ false → Moves m s es c Unfit s m es

-- a call that turns a device from u into v is made on the shelf's device, which goes from m to n; or, if it is no open, on a device of another size,
-- and the shelf's stays as it is
pub data On (c : Request) (m : Meaning) : (u v n : Meaning) → Type 0 where
  here : {n : Meaning} → On c m m n n
  elsewhere : {u v : Meaning} → (c ≢ to_open) → (u.sectors ≢ m.sectors) → On c m u v m

-- one call of a history, with any entry memory
pub data Step (m : Meaning) (s : State) : Request → Answer → State → Meaning → Type 0 where
  made : {u v n : Meaning} {es fs : List Entry} {c : Request} {a : Answer} {t : State} → On c m u v n → Moves u s es c a t v fs → Step m s c a t n

-- a mount ends and the device is mounted again: its size and its bytes are those that were left; power, conditions and writes left may be any
pub record Remounts (m n : Meaning) : Type 0 where
  pub sectors : n.sectors ≡ m.sectors
  pub bytes : n.bytes ≡ m.bytes

-- from a device m on, a history with these events leaves a state and a device
pub data History (m : Meaning) : List Event → State → Meaning → Type 0 where
  formatted : {n : Meaning} {s : Shelf} → Whole n → Formats m (Ok s) n → History m [] (Idle s) n
  called : {h : List Event} {s t : State} {n k : Meaning} {c : Request} {a : Answer} → History m h s n → Step n s c a t k → History m (h ++ event c a ∷ []) t k
  meanwhile : {h : List Event} {s : State} {n k : Meaning} → History m h s n → Between n k → History m h s k
  remounted : {h : List Event} {s : State} {n k : Meaning} → History m h s n → Remounts n k → History m h Ended k
