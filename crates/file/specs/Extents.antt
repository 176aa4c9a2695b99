-- Extents of a device, and the files that they hold.
use Rattle.std.specs.Prelude.{◌≡◌, ℕ, ◌+◌, ◌*◌, ◌<◌, ◌≤◌, true, false, List, length, Ok, Err, Result}
use Rattle.byte_lists.specs.Bytes.{part, word_at}
use Rattle.faults.specs.declared.device.DeviceFault.{DeviceFault}
use Rattle.faults.specs.declared.device.DeviceFault.TheVariants as device
use Rattle.faults.specs.declared.file.FileFault.{FileFault}
use Rattle.faults.specs.declared.file.FileFault.TheVariants as file'
use Rattle.faults.specs.Reports.{located}
use Rattle.device.specs.Meanings.{Meaning}
use Rattle.file.specs.declared.extents.Extent.{Extent}
use Rattle.file.specs.declared.words.Words.{Words}
use Rattle.file.specs.Ranges.{AllRead, FirstBad}

-- an extent is made where start and length together are no more than the 4,294,966,784 bytes of the largest device, and refused otherwise
abbrev pub MakesExtent : ℕ → ℕ → Result Extent FileFault → Type 0
MakesExtent start len (Ok e) = (e.start ≡ start) × (e.len ≡ len) × (start + len ≤ 4294966784)
MakesExtent start len (Err f) = (f ≡ file'.Range) × (4294966784 < start + len)

-- the extent lies on the device
abbrev pub On : Meaning → Extent → Type 0
On m e = e.start + e.len ≤ 512 * m.sectors

-- the bytes of an extent: a file
abbrev pub file : Meaning → Extent → List ℕ
file m e = part m.bytes e.start e.len

-- the file can be read: it is on the device whole, there is power, and none of its bytes is in a bad sector
pub record Readable (m : Meaning) (e : Extent) : Type 0 where
  pub on : On m e
  pub power : m.power ≡ true
  pub bytes : AllRead m e.start e.len

-- what refuses a file that cannot be read: its range, no power, then the first bad sector that it touches
pub data Unreadable (m : Meaning) (e : Extent) : FileFault → Type 0 where
  outside : (On m e → ⊥) → Unreadable m e file'.Range
  no_power : On m e → m.power ≡ false → Unreadable m e (file'.Device (located device.Power 256 0))
  bad_sector : {f : DeviceFault} → On m e → m.power ≡ true → FirstBad m e.start e.len f → Unreadable m e (file'.Device (located f 256 0))

-- a file that can be read, as long as its extent
pub record Ready (m : Meaning) (e : Extent) : Type 0 where
  pub readable : Readable m e
  pub long : length (file m e) ≡ e.len

-- two words of a file
abbrev pub WordsAt : List ℕ → ℕ → Words → Type 0
WordsAt f p w = (w.first ≡ word_at f p) × (w.second ≡ word_at f (p + 4))
