-- A run of writes: bytes stored on a device sector by sector, and what may have changed where the device refuses.
use Rattle.std.specs.Prelude.{◌≡◌, ℕ, ◌+◌, ◌-◌, ◌*◌, ◌/◌, ◌<◌, ◌≤◌, true, false, ◌⊎◌, List, length, Ok, Err, Result, ◌≢◌, slice_index}
use Rattle.byte_lists.specs.Bytes.{laid}
use Rattle.faults.specs.declared.device.DeviceFault.{DeviceFault}
use Rattle.faults.specs.declared.device.DeviceFault.TheVariants.{Range, Power, Bad}
use Rattle.faults.specs.declared.file.FileFault.{FileFault}
use Rattle.faults.specs.declared.file.FileFault.TheVariants.{Device}
use Rattle.faults.specs.Reports.{located}
use Rattle.device.specs.Meanings.{Meaning, Writes, endless, some, is_bad}

-- sector s holds one of the n bytes from place p on
abbrev pub Touches : ℕ → ℕ → ℕ → Type 0
Touches p n s = (0 < n) × (p / 512 ≤ s) × (512 * s < p + n)

-- place k is not one of the n from place p on
abbrev pub Outside : ℕ → ℕ → ℕ → Type 0
Outside p n k = (k < p) ⊎ (p + n ≤ k)

-- the writes left, before and after n bytes were written, at most 512 by each write
abbrev pub Used : ℕ → Writes → Writes → Type 0
Used n endless endless = Unit {0}
Used n endless (some b) = ⊥
Used n (some a) endless = ⊥
Used n (some a) (some b) = n + 512 * b ≤ 512 * a

-- the writes left are a number
abbrev pub Counted : Writes → Type 0
Counted endless = ⊥
Counted (some n) = Unit {0}

-- nothing changed but power, the writes left and bytes, and no byte at a place that is to stay
pub record Keeps (m : Meaning) (Stays : ℕ → Type 0) (n : Meaning) : Type 0 where
  pub sectors : n.sectors ≡ m.sectors
  pub condition : n.condition ≡ m.condition
  pub long : length n.bytes ≡ length m.bytes
  pub same : (k : ℕ) → Stays k → slice_index n.bytes k ≡ slice_index m.bytes k

-- done: the bytes are laid over the old ones; no sector that they touch is bad
pub record Completed (m : Meaning) (p : ℕ) (ys : List ℕ) (n : Meaning) : Type 0 where
  pub sectors : n.sectors ≡ m.sectors
  pub bytes : n.bytes ≡ laid m.bytes p ys
  pub condition : n.condition ≡ m.condition
  pub power : n.power ≡ m.power
  pub left : Used (length ys) m.left n.left
  pub on : 0 < length ys → m.power ≡ true
  pub good : (s : ℕ) → Touches p (length ys) s → is_bad m s ≡ false
  pub none : length ys ≡ 0 → n ≡ m

-- 22: stopped at the lowest bad sector that a run of len bytes touches, which is named by its first byte; bytes of the run may have changed
pub record Stopped (m : Meaning) (p len b : ℕ) (n : Meaning) : Type 0 where
  pub keeps : Keeps m (Outside p len) n
  pub power : n.power ≡ m.power
  pub on : m.power ≡ true
  pub sector : ℕ
  pub is : b ≡ 512 * sector
  pub touched : Touches p len sector
  pub marked : is_bad m sector ≡ true
  pub lowest : (s : ℕ) → Touches p len s → s < sector → is_bad m s ≡ false
  pub left : Used (512 * sector - p) m.left n.left

-- 21, where power was on: the writes left ran out at a sector that the run touches, before it came to a bad one; that sector is torn
pub record Lost (m : Meaning) (p len : ℕ) (n : Meaning) : Type 0 where
  pub on : m.power ≡ true
  pub counted : Counted m.left
  pub off : n.power ≡ false
  pub out : n.left ≡ some 0
  pub sector : ℕ
  pub touched : Touches p len sector
  pub good : (s : ℕ) → Touches p len s → s ≤ sector → is_bad m s ≡ false
  pub keeps : Keeps m (λ k. Outside p len k × (k / 512 ≢ sector)) n

-- a run of len bytes is refused
abbrev pub Interrupted : Meaning → ℕ → ℕ → DeviceFault → Meaning → Type 0
Interrupted m p len Range n = ⊥
Interrupted m p len Power n = ((0 < len) × (m.power ≡ false) × (n ≡ m)) ⊎ Lost m p len n
Interrupted m p len (Bad b) n = Stopped m p len b n

-- what a run that writes bytes from place p on may answer, and the device that it may leave
abbrev pub Runs : Meaning → ℕ → List ℕ → Result (Unit {0}) DeviceFault → Meaning → Type 0
Runs m p ys (Ok _) n = Completed m p ys n
Runs m p ys (Err f) n = Interrupted m p (length ys) f n

-- a device's fault, told with a place of the file that is written and with no table
abbrev pub at_place : DeviceFault → ℕ → FileFault
at_place f p = Device (located f 256 p)
