-- What a slot holds for a key, whatever the file holds and whichever sectors are bad. The cases stand in the order of what is read;
-- the extent lies on the device.
use Rattle.std.specs.Prelude.{◌≡◌, ℕ, ◌+◌, ◌*◌, ◌%◌, ◌<◌, ◌≤◌, List, length, Ok, Err, Result, ◌≢◌}
use Rattle.byte_lists.specs.Bytes.{word_at}
use Rattle.faults.specs.declared.device.DeviceFault.{DeviceFault}
use Rattle.faults.specs.declared.file.FileFault.{FileFault}
use Rattle.faults.specs.declared.file.FileFault.TheVariants.{Past, Device}
use Rattle.faults.specs.Reports.{located}
use Rattle.device.specs.Meanings.{Meaning}
use Rattle.file.specs.declared.extents.Extent.{Extent}
use Rattle.file.specs.declared.words.Words.{Words}
use Rattle.file.specs.Ranges.{AllRead, FirstBad}
use Rattle.file.specs.Extents.{file}
use Rattle.lookup.specs.declared.cursors.Cursor.{Cursor}
use Rattle.lookup.specs.declared.cursors.Found.{Found}
use Rattle.lookup.specs.declared.cursors.Probe.{Probe}
use Rattle.lookup.specs.declared.cursors.Probe.TheVariants.{Empty, Other, Match}
use Rattle.lookup.specs.Keys.{Agrees, Differs, Unread}

-- the two words at place p lie in the file, and can be read
abbrev pub Legible : Meaning → Extent → ℕ → Type 0
Legible m e p = (p + 8 ≤ e.len) × AllRead m (e.start + p) 8

-- or a lookup in table t is refused with f there
pub data Illegible (m : Meaning) (e : Extent) (t p : ℕ) : FileFault → Type 0 where
  past : e.len < p + 8 → Illegible m e t p (Past t p)
  bad : {f : DeviceFault} → p + 8 ≤ e.len → FirstBad m (e.start + p) 8 f → Illegible m e t p (Device (located f t p))

-- what reading them answers
abbrev pub WordsProbe : Meaning → Extent → ℕ → ℕ → Result Words FileFault → Type 0
WordsProbe m e t p (Ok w) = Legible m e p × (w.first ≡ word_at (file m e) p) × (w.second ≡ word_at (file m e) (p + 4))
WordsProbe m e t p (Err f) = Illegible m e t p f

-- the two words of the record at place p of a file
abbrev pub key_length : List ℕ → ℕ → ℕ
key_length f p = word_at f p

abbrev pub data_length : List ℕ → ℕ → ℕ
data_length f p = word_at f (p + 4)

-- where that record ends
abbrev pub record_end : List ℕ → ℕ → ℕ
record_end f p = p + 8 + key_length f p + data_length f p

-- the place and the length of its data
abbrev pub data_of : List ℕ → ℕ → Found
data_of f p = record { place = p + 8 + key_length f p; len = data_length f p }

-- what the record at place p is in a lookup of a key in table t
pub data RecordProbe (m : Meaning) (e : Extent) (t : ℕ) (key : List ℕ) (p : ℕ) : Result Probe FileFault → Type 0 where
  words_past : e.len < p + 8 → RecordProbe m e t key p (Err (Past t p))
  words_bad : {f : DeviceFault} → p + 8 ≤ e.len → FirstBad m (e.start + p) 8 f → RecordProbe m e t key p (Err (Device (located f t p)))
  end_past : Legible m e p → e.len < record_end (file m e) p → RecordProbe m e t key p (Err (Past t p))
  other_length : Legible m e p → record_end (file m e) p ≤ e.len → (key_length (file m e) p ≢ length key) → RecordProbe m e t key p (Ok Other)
  other_key : Legible m e p → record_end (file m e) p ≤ e.len → key_length (file m e) p ≡ length key → Differs m e (p + 8) key
      → RecordProbe m e t key p (Ok Other)
  key_bad : {f : DeviceFault} → Legible m e p → record_end (file m e) p ≤ e.len → key_length (file m e) p ≡ length key → Unread m e (p + 8) key f
      → RecordProbe m e t key p (Err (Device (located f t p)))
  same_key : Legible m e p → record_end (file m e) p ≤ e.len → key_length (file m e) p ≡ length key → Agrees m e (p + 8) key (length key)
      → RecordProbe m e t key p (Ok (Match (data_of (file m e) p)))

-- the table that a cursor looks in
abbrev pub table_in : Cursor → ℕ
table_in c = c.hash % 256

-- the place of its slot i
abbrev pub slot_place : Cursor → ℕ → ℕ
slot_place c i = c.position + 8 * i

-- the two words of that slot: a hash and a record's place
abbrev pub slot_hash : Meaning → Cursor → ℕ → ℕ
slot_hash m c i = word_at (file m c.extent) (slot_place c i)

abbrev pub slot_record : Meaning → Cursor → ℕ → ℕ
slot_record m c i = word_at (file m c.extent) (slot_place c i + 4)

-- what slot i holds for a key: only a slot with the cursor's hash leads to its record
pub data SlotProbe (m : Meaning) (c : Cursor) (key : List ℕ) (i : ℕ) : Result Probe FileFault → Type 0 where
  slot_past : c.extent.len < slot_place c i + 8 → SlotProbe m c key i (Err (Past (table_in c) (slot_place c i)))
  slot_bad : {f : DeviceFault} → slot_place c i + 8 ≤ c.extent.len → FirstBad m (c.extent.start + slot_place c i) 8 f
      → SlotProbe m c key i (Err (Device (located f (table_in c) (slot_place c i))))
  slot_empty : Legible m c.extent (slot_place c i) → slot_record m c i ≡ 0 → SlotProbe m c key i (Ok Empty)
  other_hash : Legible m c.extent (slot_place c i) → 0 < slot_record m c i → (slot_hash m c i ≢ c.hash) → SlotProbe m c key i (Ok Other)
  same_hash : {r : Result Probe FileFault} → Legible m c.extent (slot_place c i) → 0 < slot_record m c i → slot_hash m c i ≡ c.hash
      → RecordProbe m c.extent (table_in c) key (slot_record m c i) r → SlotProbe m c key i r
