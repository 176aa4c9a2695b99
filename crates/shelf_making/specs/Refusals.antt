-- What a refused call on a draft makes of a make: its draft is abandoned.
use Rattle.std.specs.Prelude.{◌≡◌, Some, None, Option}
use Rattle.shelf.specs.declared.refusals.Refused.{Refused}
use Rattle.shelf.specs.declared.states.Shelf as states
use Rattle.shelf.specs.declared.states.Draft.{Draft}
use Rattle.shelf.specs.declared.states.Finished.{Finished}
use Rattle.shelf.specs.States.{Live, live_of, live_at_draft, live_at_finished}
use Rattle.shelf_making.specs.declared.fault.ShelfMakeFault.TheVariants.{Shelf}
use Rattle.shelf_making.specs.declared.fault.MakeRefused.{MakeRefused}

-- a shelf with this live file comes back
abbrev pub ComesBack : Live → Option states.Shelf → Type 0
ComesBack l o = (s : states.Shelf) × (o ≡ Some s) × (live_of s ≡ l)

-- a refused add or finish
abbrev pub GivesDraftBack : Refused Draft → MakeRefused → Type 0
GivesDraftBack x y = (y.fault ≡ Shelf x.fault) × ComesBack (live_at_draft x.draft) y.shelf

-- the shelf after a refused publish, by the draft that it gave back; none where 21 ended the draft
abbrev pub AfterPublish : Option Finished → Option states.Shelf → Type 0
AfterPublish None o = o ≡ None
AfterPublish (Some f) o = ComesBack (live_at_finished f) o

-- a refused publish
abbrev pub GivesFinishedBack : Refused (Option Finished) → MakeRefused → Type 0
GivesFinishedBack x y = (y.fault ≡ Shelf x.fault) × AfterPublish x.draft y.shelf
