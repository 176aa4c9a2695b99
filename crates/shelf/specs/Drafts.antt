-- A draft from its begin on, and what a finish makes of it.
use Rattle.std.specs.Prelude.{◌≡◌, ℕ, true, ◌⊎◌, List, [], ◌∷◌, ◌++◌, Ok, Err, Option}
use Rattle.byte_lists.specs.Bytes.{part}
use Rattle.device.specs.Meanings.{Meaning, Whole}
use Rattle.cdb.specs.Records.{Record}
use Rattle.cdb.specs.Rules.{Lawful}
use Rattle.building.specs.declared.entries.Entry.{Entry}
use Rattle.shelf.specs.declared.refusals.Refused.{Refused}
use Rattle.shelf.specs.declared.states.Shelf.{Shelf}
use Rattle.shelf.specs.declared.states.Draft.{Draft}
use Rattle.shelf.specs.declared.states.Finished.{Finished}
use Rattle.shelf.specs.States.{live_at_finished, file_start, Begun}
use Rattle.shelf.specs.Adds.{Adds}
use Rattle.shelf.specs.Finishes.{Finishes}
use Rattle.shelf.specs.Publishes.{Publishes}
use Rattle.shelf.specs.Reports.{shelf_report}

-- between two calls no byte of the device changes, and power does not come back; sectors may go bad or good again, and the writes left may change
pub record Between (m n : Meaning) : Type 0 where
  pub sectors : n.sectors ≡ m.sectors
  pub bytes : n.bytes ≡ m.bytes
  pub power : n.power ≡ true → m.power ≡ true

-- since a begin these records were added, in this order: the device, the draft and the entry memory that the calls left, with power still on
pub data Drafted : Meaning → Draft → List Entry → List Record → Type 0 where
  begun : {m : Meaning} {s : Shelf} {d : Draft} (es : List Entry) → Whole m → Begun s d → Drafted m d es []
  meanwhile : {m n : Meaning} {d : Draft} {es : List Entry} {rs : List Record} → Drafted m d es rs → Between m n → Drafted n d es rs
  added : {m n : Meaning} {d e : Draft} {es fs : List Entry} {rs : List Record} (r : Record) → Drafted m d es rs → Adds m d es r (Ok e) n fs → Drafted n e fs (rs ++ r ∷ [])
  add_refused : {m n : Meaning} {d : Draft} {es fs : List Entry} {rs : List Record} (r : Record) (x : Refused Draft)
      → Drafted m d es rs → Adds m d es r (Err x) n fs → n.power ≡ true → Drafted n x.draft fs rs
  finish_refused : {m n : Meaning} {d : Draft} {es : List Entry} {rs : List Record} (x : Refused Draft)
      → Drafted m d es rs → Finishes m d es (Err x) n → n.power ≡ true → Drafted n x.draft es rs

-- the file of a finished draft
abbrev pub finished_file : Meaning → Finished → List ℕ
finished_file m f = part m.bytes (file_start (live_at_finished f)) f.made

-- a finish from the entries as the adds left them makes a lawful file of exactly the added records
abbrev pub FinishAfterAddsIsLawful : Type 0
FinishAfterAddsIsLawful =
    (m n : Meaning) (d : Draft) (es : List Entry) (rs : List Record) (f : Finished) → Drafted m d es rs → Finishes m d es (Ok f) n → Lawful (finished_file n f) rs

-- so no rule refuses to publish it: only want of power does, or a bad sector
abbrev pub PublishAfterAddsBreaksNoRule : Type 0
PublishAfterAddsBreaksNoRule =
    (m n k p : Meaning) (d : Draft) (es : List Entry) (rs : List Record) (f : Finished) (x : Refused (Option Finished))
    → Drafted m d es rs → Finishes m d es (Ok f) n → Between n k → Publishes k f (Err x) p → ((shelf_report x.fault).number ≡ 21) ⊎ ((shelf_report x.fault).number ≡ 22)
