-- Worked samples of the format: the hashes of two keys, and the verdicts on seven files.
use Rattle.std.specs.Prelude.{◌≡◌, ℕ, ◌-◌, ◌<◌, List, [], ◌∷◌, ◌++◌, map, length, replicate}
use Rattle.faults.specs.Reports.{report}
use Rattle.cdb.specs.Records.{Record, hash_of, table_of, items}
use Rattle.cdb.specs.Tables.{Slot, blank, entry, slot, home, Fills}
use Rattle.cdb.specs.Files.{file_of, position, slot_count}
use Rattle.cdb.specs.Verdicts.{accepted, refused, Judged}

-- the key `a`
abbrev pub key_a : List ℕ
key_a = 97 ∷ []

-- two records of one key, with the data `1` and `2`
abbrev pub two_records : List ℕ → List Record
two_records key = record { key = key; data' = 49 ∷ [] } ∷ record { key = key; data' = 50 ∷ [] } ∷ []

-- what the slots of these records hold, in file order
abbrev pub two_entries : List ℕ → List Slot
two_entries key = map entry (items 2048 (two_records key))

-- 256 tables, of which table t has slots and no other has any
unfoldable pub only_table : ℕ → List Slot → List (List Slot)
only_table t slots = replicate t [] ++ slots ∷ replicate (255 - t) []

-- a slot with a hash and a record's place
abbrev pub holding : ℕ → ℕ → Slot
holding hash place = record { hash = hash; place = place }

-- four slots, the second and the third filled with the records of the key `a`
abbrev pub four_slots : List Slot
four_slots = blank ∷ holding 177604 2048 ∷ holding 177604 2058 ∷ blank ∷ []

-- these with the two filled ones in each other's place
abbrev pub exchanged_slots : List Slot
exchanged_slots = blank ∷ holding 177604 2058 ∷ holding 177604 2048 ∷ blank ∷ []

-- eleven slots, the last and the first filled with the records of the empty key
abbrev pub eleven_slots : List Slot
eleven_slots = holding 5381 2057 ∷ (replicate 9 blank ++ holding 5381 2048 ∷ [])

-- two slots, both filled with these
abbrev pub two_slots : List Slot
two_slots = holding 5381 2057 ∷ holding 5381 2048 ∷ []

-- no records, and no slots
abbrev pub empty_file : List ℕ
empty_file = file_of [] (replicate 256 [])

-- the records of the key `a`, and these slots in table 196
abbrev pub four_slot_file : List ℕ
four_slot_file = file_of (two_records key_a) (only_table 196 four_slots)

abbrev pub exchanged_file : List ℕ
exchanged_file = file_of (two_records key_a) (only_table 196 exchanged_slots)

-- the records of the empty key, and these slots in table 5
abbrev pub eleven_slot_file : List ℕ
eleven_slot_file = file_of (two_records []) (only_table 5 eleven_slots)

abbrev pub two_slot_file : List ℕ
two_slot_file = file_of (two_records []) (only_table 5 two_slots)

-- each is a consequence of the definitions alone
pub record Samples : Type 0 where
  pub hash_empty : hash_of [] ≡ 5381
  pub hash_a : hash_of key_a ≡ 177604
  -- no records
  pub empty_length : length empty_file ≡ 2048
  pub empty_entries : (t : ℕ) → t < 256 → (position empty_file t ≡ 2048) × (slot_count empty_file t ≡ 0)
  pub empty_verdict : Judged empty_file (accepted 0 0 0)
  -- two records of the key `a`, put into four slots
  pub four_table : table_of key_a ≡ 196
  pub four_home : home 4 (hash_of key_a) ≡ 1
  pub four_filled : Fills 4 (two_entries key_a) four_slots
  pub four_length : length four_slot_file ≡ 2100
  pub four_verdict : Judged four_slot_file (accepted 2 4 3)
  -- with the filled slots in each other's place, a search meets the second record before the first
  pub exchanged_length : length exchanged_file ≡ 2100
  pub exchanged_verdict : Judged exchanged_file (refused (report 8 196 2058))
  -- two records of the empty key, put into eleven slots: the search goes on at the first slot after the last
  pub eleven_table : table_of [] ≡ 5
  pub eleven_home : home 11 (hash_of []) ≡ 10
  pub eleven_first : slot eleven_slots 10 ≡ holding 5381 2048
  pub eleven_second : slot eleven_slots 0 ≡ holding 5381 2057
  pub eleven_filled : Fills 11 (two_entries []) eleven_slots
  pub eleven_length : length eleven_slot_file ≡ 2154
  pub eleven_verdict : Judged eleven_slot_file (accepted 2 11 3)
  -- the same records put into two slots, of which none stays empty
  pub two_filled : Fills 2 (two_entries []) two_slots
  pub two_length : length two_slot_file ≡ 2082
  pub two_verdict : Judged two_slot_file (refused (report 6 5 2066))
  -- zeros, one fewer than a header has bytes, and as many
  pub short_verdict : Judged (replicate 2047 0) (refused (report 1 256 2047))
  pub zeros_verdict : Judged (replicate 2048 0) (refused (report 2 0 0))
