-- Entries, and the tables that are made of them, whatever the entries hold.
use Rattle.std.specs.Prelude.{◌≡◌, ℕ, ◌+◌, ◌*◌, ◌%◌, ◌<◌, Bool, List, map, length, count_by, filter, ◌==◌, nat_lt}
use Rattle.cdb.specs.Tables.{Slot, Fills}
use Rattle.cdb.specs.Files.{position, slot_count, slots_in}
use Rattle.building.specs.declared.entries.Entry.{Entry}

-- the slot that an entry goes to holds its hash and place
abbrev pub slot_of : Entry → Slot
slot_of e = record { hash = e.hash; place = e.place }

-- the table of an entry's hash
abbrev pub table_of : Entry → ℕ
table_of e = e.hash % 256

-- an entry belongs to the table of its hash
abbrev pub belongs : ℕ → Entry → Bool
belongs t e = table_of e == t

-- how many of the entries belong to table t
abbrev pub count_of : ℕ → List Entry → ℕ
count_of t es = count_by (belongs t) es

-- how many belong to the tables before table t
abbrev pub count_before : ℕ → List Entry → ℕ
count_before t es = count_by (λ e. nat_lt (e.hash % 256) t) es

-- what is put into table t, in the order of the entries
abbrev pub puts_into : ℕ → List Entry → List Slot
puts_into t es = map slot_of (filter (belongs t) es)

-- a file, whose records end at a place, has the tables of these entries: each has twice as many slots as entries belong to it,
-- and is filled with them in their order; they follow one another behind the records, and the header says so
pub record Tabled (f : List ℕ) (end : ℕ) (es : List Entry) : Type 0 where
  pub long : length f ≡ end + 16 * length es
  pub positions : (t : ℕ) → t < 256 → position f t ≡ end + 16 * count_before t es
  pub lengths : (t : ℕ) → t < 256 → slot_count f t ≡ 2 * count_of t es
  pub filled : (t : ℕ) → t < 256 → Fills (2 * count_of t es) (puts_into t es) (slots_in f t)
