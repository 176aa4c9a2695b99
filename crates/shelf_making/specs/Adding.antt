-- Records added to a draft one after the other.
use Rattle.std.specs.Prelude.{◌≡◌, ℕ, List, [], ◌∷◌, ◌++◌, Ok, Err, Result}
use Rattle.device.specs.Meanings.{Meaning}
use Rattle.cdb.specs.Records.{Record}
use Rattle.building.specs.declared.entries.Entry.{Entry}
use Rattle.text.specs.Texts.{TextOf}
use Rattle.shelf.specs.declared.refusals.Refused.{Refused}
use Rattle.shelf.specs.declared.states.Draft.{Draft}
use Rattle.shelf.specs.Adds.{Adds}

-- adds that are done, each on what the one before left: draft, device and entry memory then
pub data AddedAll (m : Meaning) (d : Draft) (es : List Entry) : List Record → Draft → Meaning → List Entry → Type 0 where
  none : AddedAll m d es [] d m es
  more : {rs : List Record} {e g : Draft} {n o : Meaning} {fs gs : List Entry} (r : Record)
      → AddedAll m d es rs e n fs → Adds n e fs r (Ok g) o gs → AddedAll m d es (rs ++ r ∷ []) g o gs

-- some of the records were added, and the next one is refused
pub record ListStopped (m : Meaning) (d : Draft) (es : List Entry) (rs : List Record) (x : Refused Draft) (n : Meaning) (fs : List Entry) : Type 0 where
  pub before : List Record
  pub next : Record
  pub after : List Record
  pub among : rs ≡ before ++ next ∷ after
  pub draft : Draft
  pub between : Meaning
  pub entries : List Entry
  pub added : AddedAll m d es before draft between entries
  pub refused : Adds between draft entries next (Err x) n fs

-- all records are added, or one of them is refused
abbrev pub AddsAll : Meaning → Draft → List Entry → List Record → Result Draft (Refused Draft) → Meaning → List Entry → Type 0
AddsAll m d es rs (Ok e) n fs = AddedAll m d es rs e n fs
AddsAll m d es rs (Err x) n fs = ListStopped m d es rs x n fs

-- so for the records of a text
abbrev pub AddsText : Meaning → Draft → List Entry → List ℕ → Result Draft (Refused Draft) → Meaning → List Entry → Type 0
AddsText m d es t r n fs = (rs : List Record) × TextOf t rs × AddsAll m d es rs r n fs
