-- A draft finished and published.
use Rattle.std.specs.Prelude.{List, Ok, Err, Option, Result}
use Rattle.device.specs.Meanings.{Meaning}
use Rattle.building.specs.declared.entries.Entry.{Entry}
use Rattle.shelf.specs.declared.refusals.Refused.{Refused}
use Rattle.shelf.specs.declared.states.Shelf.{Shelf}
use Rattle.shelf.specs.declared.states.Draft.{Draft}
use Rattle.shelf.specs.declared.states.Finished.{Finished}
use Rattle.shelf.specs.Finishes.{Finishes}
use Rattle.shelf.specs.Publishes.{Publishes}
use Rattle.shelf_making.specs.declared.fault.MakeRefused.{MakeRefused}
use Rattle.shelf_making.specs.Refusals.{GivesDraftBack, GivesFinishedBack}

-- the finish and then the publish, by what their own contracts say; the first that is refused ends it
pub data EndsDraft (m : Meaning) (d : Draft) (es : List Entry) : Result Shelf MakeRefused → Meaning → Type 0 where
  published : {k n : Meaning} {f : Finished} {s : Shelf} → Finishes m d es (Ok f) k → Publishes k f (Ok s) n → EndsDraft m d es (Ok s) n
  finish_refused : {n : Meaning} {y : MakeRefused} (x : Refused Draft) → Finishes m d es (Err x) n → GivesDraftBack x y → EndsDraft m d es (Err y) n
  publish_refused : {k n : Meaning} {f : Finished} {y : MakeRefused} (x : Refused (Option Finished))
      → Finishes m d es (Ok f) k → Publishes k f (Err x) n → GivesFinishedBack x y → EndsDraft m d es (Err y) n
