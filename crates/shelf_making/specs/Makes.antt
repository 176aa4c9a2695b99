-- What making a file on a shelf does, by what the shelf's calls do.
use Rattle.std.specs.Prelude.{◌≡◌, ℕ, ◌⊎◌, List, Some, Err, Result}
use Rattle.device.specs.Meanings.{Meaning}
use Rattle.cdb.specs.Records.{Record}
use Rattle.building.specs.declared.entries.Entry.{Entry}
use Rattle.text.specs.declared.fault.TextFault.{TextFault}
use Rattle.text.specs.Texts.{TextOf}
use Rattle.text.specs.Wholes.{Tallies}
use Rattle.shelf.specs.declared.refusals.Refused.{Refused}
use Rattle.shelf.specs.declared.states.Shelf as states
use Rattle.shelf.specs.declared.states.Draft.{Draft}
use Rattle.shelf.specs.States.{Begun}
use Rattle.shelf_making.specs.declared.fault.ShelfMakeFault.TheVariants.{Text}
use Rattle.shelf_making.specs.declared.fault.MakeRefused.{MakeRefused}
use Rattle.shelf_making.specs.Refusals.{GivesDraftBack}
use Rattle.shelf_making.specs.Adding.{AddedAll, ListStopped}
use Rattle.shelf_making.specs.Ending.{EndsDraft}

-- a draft is begun and the records are added; then it is finished and published; the first call that is refused ends it
pub data Makes (m : Meaning) (s : states.Shelf) (es : List Entry) (rs : List Record) : Result states.Shelf MakeRefused → Meaning → List Entry → Type 0 where
  add_refused : {n : Meaning} {fs : List Entry} {d : Draft} {y : MakeRefused} (x : Refused Draft)
      → Begun s d → ListStopped m d es rs x n fs → GivesDraftBack x y → Makes m s es rs (Err y) n fs
  ended : {k n : Meaning} {fs : List Entry} {d e : Draft} {r : Result states.Shelf MakeRefused}
      → Begun s d → AddedAll m d es rs e k fs → EndsDraft k e fs r n → Makes m s es rs r n fs

-- a malformed text is refused, and nothing is begun
pub record TextRefused (m : Meaning) (s : states.Shelf) (es : List Entry) (t : List ℕ) (r : Result states.Shelf MakeRefused) (n : Meaning) (fs : List Entry) : Type 0 where
  pub fault : TextFault
  pub refused : Tallies t (Err fault)
  pub is : r ≡ Err (record { fault = Text fault; shelf = Some s })
  pub device : n ≡ m
  pub entries : fs ≡ es

-- so for the records of a text
abbrev pub MakesText : Meaning → states.Shelf → List Entry → List ℕ → Result states.Shelf MakeRefused → Meaning → List Entry → Type 0
MakesText m s es t r n fs = TextRefused m s es t r n fs ⊎ ((rs : List Record) × TextOf t rs × Makes m s es rs r n fs)
