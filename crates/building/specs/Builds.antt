-- The steps of building tables on a device.
use Rattle.std.specs.Prelude.{◌≡◌, ℕ, zero, suc, ◌+◌, ◌*◌, ◌<◌, true, false, List, [], ◌++◌, length, Ok, Err, Result, slice_index_or}
use Rattle.byte_lists.specs.Bytes.{word, word_at}
use Rattle.faults.specs.declared.device.DeviceFault.{DeviceFault}
use Rattle.faults.specs.declared.device.DeviceFault.TheVariants.{Power}
use Rattle.device.specs.Meanings.{Meaning, is_bad}
use Rattle.cdb.specs.Tables.{Slot, Puts, Fills, slot_away}
use Rattle.cdb.specs.Files.{slots_at}
use Rattle.writing.specs.Runs.{Touches, Outside, Used, Keeps, Lost}
use Rattle.building.specs.declared.entries.Entry.{Entry}
use Rattle.building.specs.declared.layout.Table.{Table}
use Rattle.building.specs.Entries.{count_of, count_before, puts_into}

-- table t of these
abbrev pub table_in : List Table → ℕ → Table
table_in ts t = slice_index_or ts t (record { offset = 0; slots = 0 })

-- the tables of the entries: each has two slots for each of its entries, and they follow one another
pub record TablesOf (ts : List Table) (es : List Entry) : Type 0 where
  pub offsets : (t : ℕ) → t < 256 → (table_in ts t).offset ≡ 16 * count_before t es
  pub slots : (t : ℕ) → t < 256 → (table_in ts t).slots ≡ 2 * count_of t es

-- where table t of the entries starts, if the first starts at a place
abbrev pub start_of : ℕ → List Entry → ℕ → ℕ
start_of from es t = from + 16 * count_before t es

-- the slots of table t of the entries
abbrev pub table_at : List ℕ → ℕ → List Entry → ℕ → List Slot
table_at bytes from es t = slots_at bytes (start_of from es t) (2 * count_of t es)

-- some slot of the table of len slots at a place is empty
abbrev pub HasRoom : List ℕ → ℕ → ℕ → ℕ → Type 0
HasRoom bytes pos len hash = (j : ℕ) × (j < len) × (word_at bytes (pos + 8 * slot_away len hash j + 4) ≡ 0)

-- the empty slot at the smallest distance from the home of a hash stands at place p
pub record Nearest (bytes : List ℕ) (pos len hash p : ℕ) : Type 0 where
  pub distance : ℕ
  pub within : distance < len
  pub is : p ≡ pos + 8 * slot_away len hash distance
  pub free : word_at bytes (p + 4) ≡ 0
  pub nearest : (i : ℕ) → i < distance → 0 < word_at bytes (pos + 8 * slot_away len hash i + 4)

-- a hash and a place are put into the table of len slots at a place
pub record PutInto (m : Meaning) (pos len : ℕ) (x : Slot) (n : Meaning) : Type 0 where
  pub puts : Puts (slots_at m.bytes pos len) x (slots_at n.bytes pos len)
  pub keeps : Keeps m (Outside pos (8 * len)) n
  pub power : n.power ≡ m.power
  pub left : Used 0 m.left n.left

-- a put into a table whose sectors can be used: only power can go
abbrev pub PutsEntry : Meaning → ℕ → ℕ → Slot → Result (Unit {0}) DeviceFault → Meaning → Type 0
PutsEntry m pos len x (Ok _) n = PutInto m pos len x n
PutsEntry m pos len x (Err f) n = (f ≡ Power) × Lost m pos (8 * len) n

-- the tables of all the entries stand from a place on, filled with those that are done
pub record FilledWith (m : Meaning) (from : ℕ) (es done : List Entry) (n : Meaning) : Type 0 where
  pub keeps : Keeps m (Outside from (16 * length es)) n
  pub power : n.power ≡ m.power
  pub left : Used 0 m.left n.left
  pub on : 0 < length es → m.power ≡ true
  pub good : (s : ℕ) → Touches from (16 * length es) s → is_bad m s ≡ false
  pub none : length es ≡ 0 → n ≡ m
  pub tables : (t : ℕ) → t < 256 → Fills (2 * count_of t es) (puts_into t done) (table_at n.bytes from es t)

-- the entries are put into tables that are empty: only power can go
abbrev pub FillsAll : Meaning → ℕ → List Entry → Result (Unit {0}) DeviceFault → Meaning → Type 0
FillsAll m from es (Ok _) n = FilledWith m from es es n
FillsAll m from es (Err f) n = (f ≡ Power) × Lost m from (16 * length es) n

-- the header entries of the first t of these tables, behind records that end at a place of the file
unfoldable pub headed : ℕ → List Table → ℕ → List ℕ
headed p ts zero = []
headed p ts (suc t) = headed p ts t ++ (word (p + (table_in ts t).offset) ++ word (table_in ts t).slots)
