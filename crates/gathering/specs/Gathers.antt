-- All the data of a key: a start, and nexts up to the end, with a fetch of all data found.
use Rattle.std.specs.Prelude.{◌≡◌, ℕ, List, [], ◌∷◌, ◌++◌, map, filter, length, Some, None, Ok, Err, Result}
use Rattle.std.specs.Global.{Vec}
use Rattle.std.specs.Str.{bytes_eq}
use Rattle.faults.specs.declared.file.FileFault.{FileFault}
use Rattle.device.specs.Meanings.{Meaning}
use Rattle.cdb.specs.Records.{Record}
use Rattle.cdb.specs.Rules.{Lawful}
use Rattle.file.specs.declared.extents.Extent.{Extent}
use Rattle.file.specs.Extents.{file, Readable}
use Rattle.lookup.specs.declared.cursors.Cursor.{Cursor}
use Rattle.lookup.specs.declared.cursors.Found.{Found}
use Rattle.lookup.specs.Nexts.{Next}
use Rattle.lookup.specs.Starts.{Start}
use Rattle.lookup.specs.Fetches.{Fetch}
use Rattle.gathering.specs.declared.gather.GatherFault.{GatherFault}
use Rattle.gathering.specs.declared.gather.GatherFault.TheVariants.{File, Memory}

-- the data of the records with a key, in their order
abbrev pub data_with : List ℕ → List Record → List (List ℕ)
data_with key rs = map (λ (r : Record). r.data') (filter (λ (r : Record). bytes_eq r.key key) rs)

-- a fetch of the whole of some data found gives these bytes
abbrev pub FetchedWhole : Meaning → Extent → Found → List ℕ → Type 0
FetchedWhole m e x new = (old : List ℕ) × (length old ≡ x.len) × Fetch m e x 0 old (Ok tt) new

-- a fetch of the whole is refused
abbrev pub FetchRefused : Meaning → Extent → Found → FileFault → Type 0
FetchRefused m e x f = (old : List ℕ) × (new : List ℕ) × (length old ≡ x.len) × Fetch m e x 0 old (Err f) new

-- a lookup has come to a cursor, and its nexts found these data, each of which was fetched whole
pub data Sofar (m : Meaning) (e : Extent) (key : List ℕ) : Cursor → List (List ℕ) → Type 0 where
  started : {c : Cursor} → Start m e key (Ok c) → Sofar m e key c []
  another : {c c' : Cursor} {x : Found} {ds : List (List ℕ)} {new : List ℕ}
      → Sofar m e key c ds → Next m c key (Ok (Some x)) c' → FetchedWhole m e x new → Sofar m e key c' (ds ++ new ∷ [])

-- what the lookup answers: the data, once a next answers none, or the first refusal
pub data Gathered (m : Meaning) (e : Extent) (key : List ℕ) : Result (List (List ℕ)) FileFault → Type 0 where
  ended : {c c' : Cursor} {ds : List (List ℕ)} → Sofar m e key c ds → Next m c key (Ok None) c' → Gathered m e key (Ok ds)
  start_refused : {f : FileFault} → Start m e key (Err f) → Gathered m e key (Err f)
  next_refused : {c c' : Cursor} {ds : List (List ℕ)} {f : FileFault} → Sofar m e key c ds → Next m c key (Err f) c' → Gathered m e key (Err f)
  fetch_refused : {c c' : Cursor} {x : Found} {ds : List (List ℕ)} {f : FileFault}
      → Sofar m e key c ds → Next m c key (Ok (Some x)) c' → FetchRefused m e x f → Gathered m e key (Err f)

-- the bytes of these data
abbrev pub bytes_of : List (Vec ℕ) → List (List ℕ)
bytes_of vs = map (λ v. v.items) vs

-- there was not memory enough
abbrev pub IsMemory : GatherFault → Type 0
IsMemory (File f) = ⊥
IsMemory (Memory a) = Unit {0}

-- what a lookup that gave no data was refused with, unless memory ran out
abbrev pub GatherRefused : Meaning → Extent → List ℕ → GatherFault → Type 0
GatherRefused m e key (File f) = Gathered m e key (Err f)
GatherRefused m e key (Memory a) = Unit {0}

-- so where there is memory enough for them
abbrev pub Gathers : Meaning → Extent → List ℕ → Result (Vec (Vec ℕ)) GatherFault → Type 0
Gathers m e key (Ok all) = Gathered m e key (Ok (bytes_of all.items))
Gathers m e key (Err g) = GatherRefused m e key g

-- in a lawful file that can be read, with these records, the lookup is not refused, and gives the data of exactly the records with the key, in file order
abbrev pub GathersRecords : Meaning → Extent → List ℕ → Result (Vec (Vec ℕ)) GatherFault → Type 0
GathersRecords m e key (Ok all) = (rs : List Record) → Readable m e → Lawful (file m e) rs → bytes_of all.items ≡ data_with key rs
GathersRecords m e key (Err (File f)) = (rs : List Record) → Readable m e → Lawful (file m e) rs → ⊥
GathersRecords m e key (Err (Memory a)) = Unit {0}

-- why the whole of some data found was not fetched, unless memory ran out
abbrev pub FetchStopped : Meaning → Extent → Found → GatherFault → Type 0
FetchStopped m e x (File f) = FetchRefused m e x f
FetchStopped m e x (Memory a) = Unit {0}

-- the whole of some data found, or why there is none
abbrev pub FetchesAll : Meaning → Extent → Found → Result (Vec ℕ) GatherFault → Type 0
FetchesAll m e x (Ok data') = FetchedWhole m e x data'.items
FetchesAll m e x (Err g) = FetchStopped m e x g
