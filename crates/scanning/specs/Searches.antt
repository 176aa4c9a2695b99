-- A search for the slot of a record, by the words of the file.
use Rattle.std.specs.Prelude.{◌≡◌, ℕ, ◌+◌, ◌*◌, ◌%◌, ◌<◌, ◌≤◌, min, ◌⊎◌, List, length, Ok, Err, Result}
use Rattle.byte_lists.specs.Bytes.{part, word_at}
use Rattle.faults.specs.declared.file.FileFault.{FileFault}
use Rattle.faults.specs.declared.file.FileFault.TheVariants.{Lost}
use Rattle.cdb.specs.Records.{Item, table_of}
use Rattle.cdb.specs.Tables.{slot_away, Distance}
use Rattle.cdb.specs.Files.{slots_of}
use Rattle.scanning.specs.declared.searches.Search.{Search}

-- the place of the slot at distance j from the home of a hash, in the table of len slots at pos
abbrev pub slot_place : ℕ → ℕ → ℕ → ℕ → ℕ
slot_place pos len hash j = pos + 8 * slot_away len hash j

-- the slot at place s holds a hash and a record's place
abbrev pub HoldsBoth : List ℕ → ℕ → ℕ → ℕ → Type 0
HoldsBoth f s hash place = (word_at f s ≡ hash) × (word_at f (s + 4) ≡ place)

-- the slots at distances below j are filled, and hold another hash or place
abbrev pub Passed : List ℕ → ℕ → ℕ → ℕ → ℕ → ℕ → Type 0
Passed f pos len hash place j = (i : ℕ) → i < j → (0 < word_at f (slot_place pos len hash i + 4)) × (HoldsBoth f (slot_place pos len hash i) hash place → ⊥)

-- the slot at distance j is the first that holds the hash and the place
pub record Found (f : List ℕ) (pos len hash place j : ℕ) : Type 0 where
  pub within : j < len
  pub holds : HoldsBoth f (slot_place pos len hash j) hash place
  pub passed : Passed f pos len hash place j

-- the search ends at an empty slot, or after the last, and has not met the hash and the place
pub record Missing (f : List ℕ) (pos len hash place : ℕ) : Type 0 where
  pub end : ℕ
  pub passed : Passed f pos len hash place end
  pub stops : (end ≡ len) ⊎ ((end < len) × (word_at f (slot_place pos len hash end + 4) ≡ 0))

-- the record at a place
abbrev pub item_at : List ℕ → ℕ → Item
item_at f p = record { key = part f (p + 8) (word_at f p); place = p }

-- h is the hash, and q the place of a record of the file that stands behind the one at p and has its key
abbrev pub Later : List ℕ → ℕ → ℕ → ℕ → ℕ → Type 0
Later f hash p h q = (h ≡ hash) × (p < q) × (q + 8 + word_at f q ≤ length f) × ((item_at f q).key ≡ (item_at f p).key)

-- r is low, or the lower of low and q if q is the place of such a record
abbrev pub Lowers : List ℕ → ℕ → ℕ → ℕ → ℕ → ℕ → ℕ → Type 0
Lowers f hash p h q low r = (Later f hash p h q × (r ≡ min low q)) ⊎ ((Later f hash p h q → ⊥) × (r ≡ low))

-- the slot at place s leads to such a record
abbrev pub LaterAt : List ℕ → ℕ → ℕ → ℕ → Type 0
LaterAt f hash p s = Later f hash p (word_at f s) (word_at f (s + 4))

-- r is the lowest place of such a record at a distance below k, or best if that is lower
pub record Lowest (f : List ℕ) (pos len hash p k best r : ℕ) : Type 0 where
  pub most : r ≤ best
  pub least : (i : ℕ) → i < k → LaterAt f hash p (slot_place pos len hash i) → r ≤ word_at f (slot_place pos len hash i + 4)
  pub from : (r ≡ best) ⊎ ((i : ℕ) × (i < k) × LaterAt f hash p (slot_place pos len hash i) × (r ≡ word_at f (slot_place pos len hash i + 4)))

-- what a search for the hash and place of the record at p finds, in the table of len slots at pos, or that it refuses the record
abbrev pub Searched : List ℕ → ℕ → ℕ → ℕ → ℕ → ℕ → Result Search FileFault → Type 0
Searched f pos len hash p best (Ok x) = (x.table ≡ hash % 256) × Found f pos len hash p x.distance × Lowest f pos len hash p x.distance best x.low
Searched f pos len hash p best (Err y) = (y ≡ Lost (hash % 256) p) × Missing f pos len hash p

-- the record at q stands behind y, has its key, and a smaller distance: it breaks rule 8
abbrev pub Overtakes : List ℕ → Item → ℕ → Type 0
Overtakes f y q =
    (k : ℕ) × (j : ℕ) × Distance (slots_of f y) y k × Distance (slots_of f (item_at f q)) (item_at f q) j
    × (j < k) × ((item_at f q).key ≡ y.key) × (y.place < q) × (q + 8 + word_at f q ≤ length f)

-- r is the lowest place of a record that overtakes y, or best if that is lower
pub record Lowered (f : List ℕ) (y : Item) (best r : ℕ) : Type 0 where
  pub most : r ≤ best
  pub least : (q : ℕ) → Overtakes f y q → r ≤ q
  pub from : (r ≡ best) ⊎ Overtakes f y r

-- what is found for the record at p: its table, its distance, and the lowest place of a record that overtakes it; a record without a distance is refused
abbrev pub Located : List ℕ → ℕ → ℕ → Result Search FileFault → Type 0
Located f p best (Ok x) = (x.table ≡ table_of (item_at f p).key) × Distance (slots_of f (item_at f p)) (item_at f p) x.distance × Lowered f (item_at f p) best x.low
Located f p best (Err y) = (y ≡ Lost (table_of (item_at f p).key) p) × ((j : ℕ) → Distance (slots_of f (item_at f p)) (item_at f p) j → ⊥)
