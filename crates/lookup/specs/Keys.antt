-- Whether a key stands at a place of a file: its bytes are read in their order, and the first that differs or cannot be read decides.
use Rattle.std.specs.Prelude.{◌≡◌, ℕ, ◌+◌, ◌/◌, ◌<◌, Bool, true, false, List, length, Some, Ok, Err, Result, slice_index, slice_index_or}
use Rattle.faults.specs.declared.device.DeviceFault.{DeviceFault}
use Rattle.device.specs.Meanings.{Meaning, refuses}
use Rattle.file.specs.declared.extents.Extent.{Extent}
use Rattle.file.specs.Ranges.{AllRead}
use Rattle.file.specs.Extents.{file}

-- the first k bytes of the key stand at place p of the file, and can be read there
pub record Agrees (m : Meaning) (e : Extent) (p : ℕ) (key : List ℕ) (k : ℕ) : Type 0 where
  pub reads : AllRead m (e.start + p) k
  pub same : (j : ℕ) → j < k → slice_index (file m e) (p + j) ≡ slice_index key j

-- the byte at distance k from p differs from the key's, and it and those before it can be read
pub record Differs (m : Meaning) (e : Extent) (p : ℕ) (key : List ℕ) : Type 0 where
  pub k : ℕ
  pub within : k < length key
  pub reads : AllRead m (e.start + p) (k + 1)
  pub differs : slice_index_or (file m e) (p + k) 0 ≡ slice_index key k → ⊥

-- the byte at distance k from p cannot be read, f says why, and those before it agree with the key's
pub record Unread (m : Meaning) (e : Extent) (p : ℕ) (key : List ℕ) (f : DeviceFault) : Type 0 where
  pub k : ℕ
  pub within : k < length key
  pub before : Agrees m e p key k
  pub refused : refuses m ((e.start + p + k) / 512) ≡ Some f

-- whether the key stands at place p of the file
abbrev pub Compared : Meaning → Extent → ℕ → List ℕ → Result Bool DeviceFault → Type 0
Compared m e p key (Ok true) = Agrees m e p key (length key)
Compared m e p key (Ok false) = Differs m e p key
Compared m e p key (Err f) = Unread m e p key f
