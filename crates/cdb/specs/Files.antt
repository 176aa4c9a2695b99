-- The bytes of a file that is made from records and tables, and what is read from any bytes.
use Rattle.std.specs.Prelude.{◌≡◌, ℕ, zero, suc, ◌+◌, ◌*◌, ◌<◌, List, [], ◌∷◌, ◌++◌, length, slice_index_or}
use Rattle.std.specs.List.{flat_map}
use Rattle.byte_lists.specs.Bytes.{word, word_at}
use Rattle.cdb.specs.Records.{Record, Item, record_bytes, belonging, table_of}
use Rattle.cdb.specs.Tables.{Slot, Filling}

abbrev pub slot_bytes : Slot → List ℕ
slot_bytes s = word s.hash ++ word s.place

abbrev pub table_bytes : List Slot → List ℕ
table_bytes slots = flat_map slot_bytes slots

-- the header entries of tables, of which the first starts at place p: the position of each and its number of slots
abbrev pub header : ℕ → List (List Slot) → List ℕ
header p [] = []
header p (s ∷ ss) = (word p ++ word (length s)) ++ header (p + 8 * length s) ss

-- a file: the header, the records, the tables
unfoldable pub file_of : List Record → List (List Slot) → List ℕ
file_of rs tables = header (2048 + length (flat_map record_bytes rs)) tables ++ (flat_map record_bytes rs ++ flat_map table_bytes tables)

-- some table lengths and permitted filling orders of these records give the bytes of the file
pub record Made (file : List ℕ) (rs : List Record) : Type 0 where
  pub tables : List (List Slot)
  pub count : length tables ≡ 256
  pub bytes : file ≡ file_of rs tables
  pub filled : (t : ℕ) → t < 256 → Filling (belonging t rs) (slice_index_or tables t [])

-- the position of table t, by its header entry
abbrev pub position : List ℕ → ℕ → ℕ
position file t = word_at file (8 * t)

-- its number of slots
abbrev pub slot_count : List ℕ → ℕ → ℕ
slot_count file t = word_at file (8 * t + 4)

-- where table t ends
abbrev pub ends : List ℕ → ℕ → ℕ
ends file t = position file t + 8 * slot_count file t

-- n slots from place p on
abbrev pub slots_at : List ℕ → ℕ → ℕ → List Slot
slots_at file p zero = []
slots_at file p (suc n) = record { hash = word_at file p; place = word_at file (p + 4) } ∷ slots_at file (p + 8) n

-- the slots of table t
abbrev pub slots_in : List ℕ → ℕ → List Slot
slots_in file t = slots_at file (position file t) (slot_count file t)

-- the slots of the table that a record belongs to
abbrev pub slots_of : List ℕ → Item → List Slot
slots_of file x = slots_in file (table_of x.key)
