-- What a device means, and what its calls answer.
use Rattle.std.specs.Prelude.{◌≡◌, ℕ, ◌+◌, ◌-◌, ◌*◌, ◌/◌, ◌%◌, ◌<◌, ◌≤◌, Bool, true, false, cond, ◌&&◌, ◌⊎◌, List, length, Some, None, Ok, Err, Option, Result, ◌≢◌, nat_le, nat_lt, slice_index}
use Rattle.byte_lists.specs.Bytes.{Bytes, laid}
use Rattle.faults.specs.declared.device.DeviceFault.{DeviceFault}
use Rattle.faults.specs.declared.device.DeviceFault.TheVariants.{Range, Power, Bad}

-- the writes that are left: any number, or so many
pub data Writes : Type 0 where
  endless : Writes
  some : ℕ → Writes

-- the condition of a sector
pub data Condition : Type 0 where
  good : Condition
  bad : Condition

-- whether a sector in this condition refuses what is read from it or written to it
abbrev pub spoils : Condition → Bool
spoils good = false
spoils bad = true

-- a device: how many sectors of 512 bytes it has, their bytes, the condition of each, whether power is on, the writes left
pub record Meaning : Type 0 where
  pub sectors : ℕ
  pub bytes : List ℕ
  pub condition : ℕ → Condition
  pub power : Bool
  pub left : Writes

-- what every device is: at most 8,388,607 sectors, 512 bytes to a sector, and power on if it has none
pub record Whole (m : Meaning) : Type 0 where
  pub few : m.sectors ≤ 8388607
  pub long : length m.bytes ≡ 512 * m.sectors
  pub bytes : Bytes m.bytes
  pub on : m.sectors ≡ 0 → m.power ≡ true

-- sector s is bad
abbrev pub is_bad : Meaning → ℕ → Bool
is_bad m s = spoils (m.condition s)

-- which pieces may be read and written: 1 to 512 bytes inside one sector of the device
abbrev pub within : ℕ → ℕ → ℕ → Bool
within sectors place n = nat_lt 0 n && (nat_le (place % 512 + n) 512 && nat_le (place + n) (512 * sectors))

-- what refuses a call at a sector of the device: no power, then a bad sector, by its first byte
abbrev pub refuses : Meaning → ℕ → Option DeviceFault
refuses m s = cond m.power (cond (is_bad m s) (Some (Bad (512 * s))) None) (Some Power)

-- what refuses a piece of n bytes: its range first
abbrev pub refusal : Meaning → ℕ → ℕ → Option DeviceFault
refusal m place n = cond (within m.sectors place n) (refuses m (place / 512)) (Some Range)

-- what refuses a sector: its range first
abbrev pub state : Meaning → ℕ → Option DeviceFault
state m s = cond (nat_lt s m.sectors) (refuses m s) (Some Range)

-- done, or refused
abbrev pub answer : Option DeviceFault → Result (Unit {0}) DeviceFault
answer None = Ok tt
answer (Some f) = Err f

-- what a buffer holds after a read: the bytes read, or what it held if the read is refused
abbrev pub filled : Option DeviceFault → List ℕ → List ℕ → List ℕ
filled None new old = new
filled (Some f) new old = old

-- the writes left after one more; none where 0 are left
abbrev pub spent : Writes → Option Writes
spent endless = Some endless
spent (some n) = cond (nat_lt 0 n) (Some (some (n - 1))) None

-- the bytes after a write during which power went: sector 0 has its old or its new bytes, any other sector written may hold anything
pub record Torn (old : List ℕ) (place : ℕ) (piece : List ℕ) (new : List ℕ) : Type 0 where
  pub long : length new ≡ length old
  pub bytes : Bytes new
  pub apart : (k : ℕ) → (k / 512 ≢ place / 512) → slice_index new k ≡ slice_index old k
  pub root : place < 512 → (new ≡ old) ⊎ (new ≡ laid old place piece)

-- the device after such a write
pub record Cut (m : Meaning) (place : ℕ) (piece : List ℕ) (m' : Meaning) : Type 0 where
  pub sectors : m'.sectors ≡ m.sectors
  pub bytes : Torn m.bytes place piece m'.bytes
  pub condition : m'.condition ≡ m.condition
  pub power : m'.power ≡ false
  pub left : m'.left ≡ m.left

-- the device after a write that is done
abbrev pub stored : Meaning → ℕ → List ℕ → Writes → Meaning
stored m place piece w = record { sectors = m.sectors; bytes = laid m.bytes place piece; condition = m.condition; power = m.power; left = w }

-- a write that nothing else refuses: done where writes are left, else power goes
abbrev pub Spends : Option Writes → Meaning → ℕ → List ℕ → Result (Unit {0}) DeviceFault → Meaning → Type 0
Spends None m place piece r m' = (r ≡ Err Power) × Cut m place piece m'
Spends (Some w) m place piece r m' = (r ≡ Ok tt) × (m' ≡ stored m place piece w)

-- a write that is refused changes nothing
abbrev pub WritesBy : Option DeviceFault → Meaning → ℕ → List ℕ → Result (Unit {0}) DeviceFault → Meaning → Type 0
WritesBy (Some f) m place piece r m' = (r ≡ Err f) × (m' ≡ m)
WritesBy None m place piece r m' = Spends (spent m.left) m place piece r m'

-- what a write may answer, and the device that it may leave
abbrev pub Written : Meaning → ℕ → List ℕ → Result (Unit {0}) DeviceFault → Meaning → Type 0
Written m place piece r m' = WritesBy (refusal m place (length piece)) m place piece r m'
