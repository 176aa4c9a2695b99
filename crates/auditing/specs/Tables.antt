-- Rules 5 to 7, table by table, where the numbers of records are known.
use Rattle.std.specs.Prelude.{◌≡◌, ℕ, ◌+◌, ◌*◌, ◌<◌, List, Ok, Err, count_by, Result, nat_lt, slice_index}
use Rattle.byte_lists.specs.Bytes.{word_at}
use Rattle.faults.specs.declared.file.FileFault.{FileFault}
use Rattle.faults.specs.declared.file.FileFault.TheVariants as fault
use Rattle.cdb.specs.Tables.{Slot}
use Rattle.cdb.specs.Files.{position, slot_count, slots_at}
use Rattle.cdb.specs.Rules.{First, Each}

-- how many of len slots at pos are filled
abbrev pub filled_in : List ℕ → ℕ → ℕ → ℕ
filled_in f pos len = count_by (λ (s : Slot). nat_lt 0 s.place) (slots_at f pos len)

-- table t has as many filled slots as it is to have
abbrev pub Counted : List ℕ → List ℕ → ℕ → Type 0
Counted f counts t = filled_in f (position f t) (slot_count f t) ≡ slice_index counts t

-- table t has no slots, or more than records
abbrev pub Room : List ℕ → List ℕ → ℕ → Type 0
Room f counts t = 0 < slot_count f t → slice_index counts t < slot_count f t

-- slot i of the table at pos has hash 0 if it is empty
abbrev pub ClearAt : List ℕ → ℕ → ℕ → Type 0
ClearAt f pos i = word_at f (pos + 8 * i + 4) ≡ 0 → word_at f (pos + 8 * i) ≡ 0

abbrev pub TableClear : List ℕ → ℕ → Type 0
TableClear f t = (i : ℕ) → i < slot_count f t → ClearAt f (position f t) i

-- the first table that does not keep a rule is refused, at its position
pub record RefusesTable (f : List ℕ) (Keeps : ℕ → Type 0) (refusal : ℕ → ℕ → FileFault) (x : FileFault) : Type 0 where
  pub table : ℕ
  pub first : First 256 Keeps table
  pub told : x ≡ refusal table (position f table)

-- the first slot that is not clear is refused, by table, then slot
pub record RefusesSlot (f : List ℕ) (x : FileFault) : Type 0 where
  pub table : ℕ
  pub first : First 256 (TableClear f) table
  pub index : ℕ
  pub slot : First (slot_count f table) (ClearAt f (position f table)) index
  pub told : x ≡ fault.Stained table (position f table + 8 * index)

-- what the first of rules 5 to 7 that is broken refuses
pub data Unruled (f counts : List ℕ) (x : FileFault) : Type 0 where
  miscounted : RefusesTable f (Counted f counts) fault.Count x → Unruled f counts x
  crowded : Each (Counted f counts) → RefusesTable f (Room f counts) fault.Full x → Unruled f counts x
  stained : Each (Counted f counts) → Each (Room f counts) → RefusesSlot f x → Unruled f counts x

-- rules 5 to 7 in turn
abbrev pub Ruled : List ℕ → List ℕ → Result (Unit {0}) FileFault → Type 0
Ruled f counts (Ok u) = Each (Counted f counts) × Each (Room f counts) × Each (TableClear f)
Ruled f counts (Err x) = Unruled f counts x
