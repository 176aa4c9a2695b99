-- What making a file at the start of a device does.
use Rattle.std.specs.Prelude.{◌≡◌, ℕ, ◌+◌, ◌*◌, ◌<◌, ◌≤◌, true, false, ◌⊎◌, List, [], ◌∷◌, ◌++◌, length, drop, Ok, Err, Result}
use Rattle.std.specs.List.{flat_map}
use Rattle.byte_lists.specs.Bytes.{part}
use Rattle.faults.specs.declared.device.DeviceFault.{DeviceFault}
use Rattle.faults.specs.declared.file.FileFault.{FileFault}
use Rattle.device.specs.Meanings.{Meaning, is_bad}
use Rattle.cdb.specs.Records.{Record, record_bytes, size, hash_of}
use Rattle.cdb.specs.Rules.{Lawful}
use Rattle.writing.specs.Runs.{Touches, Used, Keeps, Completed, Interrupted, at_place}
use Rattle.building.specs.declared.entries.Entry.{Entry}
use Rattle.building.specs.Entries.{Tabled}
use Rattle.building.specs.Closes.{Closes}
use Rattle.text.specs.Texts.{TextOf}
use Rattle.text.specs.Wholes.{Tallies}
use Rattle.making.specs.declared.fault.MakeFault.{MakeFault}
use Rattle.making.specs.declared.fault.MakeFault.TheVariants.{Text, Entries, Long, File}
use Rattle.making.specs.Sizes.{end_of, made_length}

-- the entries of records that stand from a place on: the hash of each key, and the record's place
abbrev pub entries_from : ℕ → List Record → List Entry
entries_from p [] = []
entries_from p (r ∷ rs) = record { hash = hash_of r.key; place = p } ∷ entries_from (p + size r) rs

-- the first of the entry memory are the entries of these records, and the rest is as before
abbrev pub Noted : List Entry → List Record → List Entry → Type 0
Noted es rs fs = fs ≡ entries_from 2048 rs ++ drop (length rs) es

-- the first bytes of the device are a lawful file with these records, whose tables are made of their entries in order;
-- no byte behind it changed, and no sector that it touches is bad
pub record MadeFile (m : Meaning) (rs : List Record) (n : Meaning) : Type 0 where
  pub lawful : Lawful (part n.bytes 0 (made_length rs)) rs
  pub tabled : Tabled (part n.bytes 0 (made_length rs)) (end_of rs) (entries_from 2048 rs)
  pub keeps : Keeps m (λ k. made_length rs ≤ k) n
  pub power : n.power ≡ m.power
  pub left : Used (made_length rs) m.left n.left
  pub on : m.power ≡ true
  pub good : (s : ℕ) → Touches 0 (made_length rs) s → is_bad m s ≡ false

-- the device refused a record, which is told with the record's place; those before it are written and noted
pub record RecordStopped (m : Meaning) (es : List Entry) (rs : List Record) (x : FileFault) (n : Meaning) (fs : List Entry) : Type 0 where
  pub before : List Record
  pub next : Record
  pub after : List Record
  pub among : rs ≡ before ++ next ∷ after
  pub between : Meaning
  pub written : Completed m 2048 (flat_map record_bytes before) between
  pub fault : DeviceFault
  pub told : x ≡ at_place fault (end_of before)
  pub refused : Interrupted between (end_of before) (size next) fault n
  pub noted : Noted es before fs

-- all records are written and noted, and the device refused the tables or the header
pub record CloseStopped (m : Meaning) (es : List Entry) (rs : List Record) (x : FileFault) (n : Meaning) (fs : List Entry) : Type 0 where
  pub between : Meaning
  pub written : Completed m 2048 (flat_map record_bytes rs) between
  pub refused : Closes between 0 (end_of rs) (entries_from 2048 rs) (Err x) n
  pub noted : Noted es rs fs

-- these are the records of the text, there is an entry for each, and their file fits the device
pub record Fits (m : Meaning) (es : List Entry) (t : List ℕ) (rs : List Record) : Type 0 where
  pub text : TextOf t rs
  pub entries : length rs ≤ length es
  pub room : made_length rs ≤ 512 * m.sectors

-- refused in the order 10, 24, 27, which change nothing, and then by the device
abbrev pub MakeStopped : Meaning → List Entry → List ℕ → MakeFault → Meaning → List Entry → Type 0
MakeStopped m es t (Text f) n fs = Tallies t (Err f) × (n ≡ m) × (fs ≡ es)
MakeStopped m es t Entries n fs = (rs : List Record) × TextOf t rs × (length es < length rs) × (n ≡ m) × (fs ≡ es)
MakeStopped m es t (Long limit) n fs =
    (rs : List Record) × TextOf t rs × (length rs ≤ length es) × (limit ≡ 512 * m.sectors) × (limit < made_length rs) × (n ≡ m) × (fs ≡ es)
MakeStopped m es t (File x) n fs = (rs : List Record) × Fits m es t rs × (RecordStopped m es rs x n fs ⊎ CloseStopped m es rs x n fs)

-- done: the file of the text's records stands at the start of the device, and the entry memory has their entries
abbrev pub MakesFile : Meaning → List Entry → List ℕ → Result ℕ MakeFault → Meaning → List Entry → Type 0
MakesFile m es t (Ok len) n fs = (rs : List Record) × Fits m es t rs × (len ≡ made_length rs) × MadeFile m rs n × Noted es rs fs
MakesFile m es t (Err x) n fs = MakeStopped m es t x n fs
