-- Bytes on a device, read in their order up to the first that cannot be read.
use Rattle.std.specs.Prelude.{◌≡◌, ℕ, ◌+◌, ◌/◌, ◌<◌, ◌≤◌, List, length, Some, None, Ok, Err, Result, slice_index}
use Rattle.byte_lists.specs.Bytes.{word_at}
use Rattle.faults.specs.declared.device.DeviceFault.{DeviceFault}
use Rattle.device.specs.Meanings.{Meaning, refuses}
use Rattle.file.specs.declared.words.Words.{Words}

-- the byte at a place can be read
abbrev pub Reads : Meaning → ℕ → Type 0
Reads m p = refuses m (p / 512) ≡ None

-- n bytes from a place on can be read
abbrev pub AllRead : Meaning → ℕ → ℕ → Type 0
AllRead m p n = (j : ℕ) → j < n → Reads m (p + j)

-- the byte at distance k from p is the first of n that cannot be read, and f says why
pub record FirstBad (m : Meaning) (p n : ℕ) (f : DeviceFault) : Type 0 where
  pub k : ℕ
  pub within : k < n
  pub before : AllRead m p k
  pub refused : refuses m ((p + k) / 512) ≡ Some f

-- the sectors from first up to end, without end, can be read
abbrev pub SectorsRead : Meaning → ℕ → ℕ → Type 0
SectorsRead m first end = (s : ℕ) → first ≤ s → s < end → refuses m s ≡ None

-- one of them is the first that cannot, and f says why
abbrev pub FirstSector : Meaning → ℕ → ℕ → DeviceFault → Type 0
FirstSector m first end f = (s : ℕ) × (first ≤ s) × (s < end) × SectorsRead m first s × (refuses m s ≡ Some f)

-- a buffer holds k bytes of the device from p on, and past them what it held before
pub record Holds (m : Meaning) (p k : ℕ) (old new : List ℕ) : Type 0 where
  pub long : length new ≡ length old
  pub front : (j : ℕ) → j < k → slice_index new j ≡ slice_index m.bytes (p + j)
  pub rest : (j : ℕ) → k ≤ j → slice_index new j ≡ slice_index old j

-- a buffer is filled from place p on; where a sector cannot be read, only with the bytes before that sector
abbrev pub Fetched : Meaning → ℕ → List ℕ → Result (Unit {0}) DeviceFault → List ℕ → Type 0
Fetched m p old (Ok u) new = AllRead m p (length old) × Holds m p (length old) old new
Fetched m p old (Err f) new = (b : FirstBad m p (length old) f) × Holds m p b.k old new

-- the two words at place p, or what refuses the first of their bytes that cannot be read
abbrev pub WordsRead : Meaning → ℕ → Result Words DeviceFault → Type 0
WordsRead m p (Ok w) = AllRead m p 8 × (w.first ≡ word_at m.bytes p) × (w.second ≡ word_at m.bytes (p + 4))
WordsRead m p (Err f) = FirstBad m p 8 f
