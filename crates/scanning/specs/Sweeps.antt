-- Walks from record to record.
use Rattle.std.specs.Prelude.{◌≡◌, ℕ, ◌+◌, ◌<◌, ◌≤◌, ◌⊎◌, List, length, slice_index}
use Rattle.std.specs.List.{ContainsAt as Has, AllByRecursion}
use Rattle.byte_lists.specs.Bytes.{word_at}
use Rattle.faults.specs.declared.file.FileFault.{FileFault}
use Rattle.faults.specs.declared.file.FileFault.TheVariants as fault
use Rattle.cdb.specs.Records.{Record, Records, Item, items, belonging, table_of}
use Rattle.cdb.specs.Rules.{FirstOf, Rule4}
use Rattle.cdb.specs.Verdicts.{Probes}
use Rattle.scanning.specs.declared.records.Step.{Step}
use Rattle.scanning.specs.Searches.{Overtakes}

-- n records stand from 2048 up to p
abbrev pub CountTo : List ℕ → ℕ → ℕ → Type 0
CountTo f p n = (rs : List Record) × Records f 2048 p rs × (length rs ≡ n)

-- records stand up to p, which is before end, and the one at p ends past it
abbrev pub Past : List ℕ → ℕ → ℕ → Type 0
Past f end p = (rs : List Record) × Records f 2048 p rs × (p < end) × (end < p + (8 + (word_at f p + word_at f (p + 4))))

-- the first record that ends past end is refused
abbrev pub EndsPast : List ℕ → ℕ → FileFault → Type 0
EndsPast f end x = (p : ℕ) × (x ≡ fault.Record p) × Past f end p

-- records stand from p up to end
abbrev pub Ahead : List ℕ → ℕ → ℕ → Type 0
Ahead f p end = (rs : List Record) × Records f p end rs

-- the key length of the record at p, and where it ends
pub record Steps (f : List ℕ) (p end : ℕ) (r : Step) : Type 0 where
  pub key : r.key ≡ word_at f p
  pub next : r.next ≡ p + (8 + (word_at f p + word_at f (p + 4)))
  pub within : r.next ≤ end
  pub ahead : Ahead f r.next end

-- the counts are the numbers of records that belong to each table
abbrev pub Tally : List ℕ → List Record → Type 0
Tally counts rs = (t : ℕ) → t < 256 → slice_index counts t ≡ length (belonging t rs)

-- the records up to p have q probes and these counts
abbrev pub Met : List ℕ → ℕ → ℕ → List ℕ → Type 0
Met f p q counts = (rs : List Record) × Records f 2048 p rs × Probes f (items 2048 rs) q × Tally counts rs

-- low is the lowest place of a record that overtakes one of those up to p, or end
pub record Swept (f : List ℕ) (p end low : ℕ) : Type 0 where
  pub before : List Record
  pub reads : Records f 2048 p before
  pub most : low ≤ end
  pub least : AllByRecursion (λ y. (q : ℕ) → Overtakes f y q → low ≤ q) (items 2048 before)
  pub from : (low ≡ end) ⊎ ((y : Item) × Has (items 2048 before) y × Overtakes f y low)

-- all records up to end have a distance
pub record Placed (f : List ℕ) (end q : ℕ) (counts : List ℕ) (low : ℕ) : Type 0 where
  pub met : Met f end q counts
  pub swept : Swept f end end low

-- the first record up to end without a distance is refused
abbrev pub Lost : List ℕ → ℕ → FileFault → Type 0
Lost f end y = (rs : List Record) × Records f 2048 end rs × ((x : Item) × FirstOf (items 2048 rs) (Rule4 f) x × (y ≡ fault.Lost (table_of x.key) x.place))
