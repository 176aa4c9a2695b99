-- What making a file in memory answers.
use Rattle.std.specs.Prelude.{◌≡◌, ℕ, ◌*◌, ◌<◌, ◌≤◌, List, length, Ok, Err, Result}
use Rattle.std.specs.Borrow.{Bor}
use Rattle.cdb.specs.Records.{Record}
use Rattle.cdb.specs.Rules.{Lawful}
use Rattle.memory.specs.Memories.{fitting}
use Rattle.building.specs.declared.entries.Entry.{Entry}
use Rattle.building.specs.Entries.{Tabled}
use Rattle.text.specs.Texts.{TextOf}
use Rattle.text.specs.Wholes.{Tallies}
use Rattle.making.specs.declared.fault.MakeFault.{MakeFault}
use Rattle.making.specs.declared.fault.MakeFault.TheVariants.{Text, Entries, Long, File}
use Rattle.making.specs.Sizes.{end_of, made_length}
use Rattle.making.specs.Makes.{entries_from, Noted}
use Rattle.making.specs.Laws.{GivesBack, GivesText}

-- the file of these records: lawful, with tables that are made of their entries in order; it gives the records back, and the text that it was made from
pub record FileOf (t : List ℕ) (rs : List Record) (f : List ℕ) : Type 0 where
  pub long : length f ≡ made_length rs
  pub lawful : Lawful f rs
  pub tabled : Tabled f (end_of rs) (entries_from 2048 rs)
  pub back : GivesBack f rs
  pub gives : GivesText t f

-- refused in the order 10, 24, 27, with no entry changed; memory itself refuses nothing
abbrev pub MemoryRefused : List ℕ → List Entry → List ℕ → MakeFault → List Entry → Type 0
MemoryRefused bytes es t (Text f) fs = Tallies t (Err f) × (fs ≡ es)
MemoryRefused bytes es t Entries fs = (rs : List Record) × TextOf t rs × (length es < length rs) × (fs ≡ es)
MemoryRefused bytes es t (Long limit) fs =
    (rs : List Record) × TextOf t rs × (length rs ≤ length es) × (limit ≡ 512 * fitting bytes) × (limit < made_length rs) × (fs ≡ es)
MemoryRefused bytes es t (File x) fs = ⊥

-- done: the file of the text's records is handed out
abbrev pub MakesInMemory : List ℕ → List Entry → List ℕ → Result (Bor (List ℕ)) MakeFault → List Entry → Type 0
MakesInMemory bytes es t (Ok f) fs = (rs : List Record) × TextOf t rs × FileOf t rs f.now × Noted es rs fs
MakesInMemory bytes es t (Err x) fs = MemoryRefused bytes es t x fs
