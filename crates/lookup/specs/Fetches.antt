-- What fetch answers, and what its buffer holds then.
use Rattle.std.specs.Prelude.{ℕ, ◌+◌, ◌≤◌, List, ◌++◌, length, drop, Ok, Err, Result}
use Rattle.byte_lists.specs.Bytes.{part}
use Rattle.faults.specs.declared.device.DeviceFault.{DeviceFault}
use Rattle.faults.specs.declared.file.FileFault.{FileFault}
use Rattle.faults.specs.declared.file.FileFault.TheVariants.{Range, Device}
use Rattle.faults.specs.Reports.{located}
use Rattle.device.specs.Meanings.{Meaning}
use Rattle.file.specs.declared.extents.Extent.{Extent}
use Rattle.file.specs.Ranges.{AllRead, FirstBad}
use Rattle.file.specs.Extents.{On, file}
use Rattle.lookup.specs.declared.cursors.Found.{Found}

-- n bytes from a place of the file on lie inside the device, the file and the data, which end at the place end
pub record Inside (m : Meaning) (e : Extent) (from end n : ℕ) : Type 0 where
  pub on_device : On m e
  pub in_file : from + n ≤ e.len
  pub in_data : from + n ≤ end

-- a buffer is filled with such bytes; where a sector cannot be read, only with those before that sector
pub data Takes (m : Meaning) (e : Extent) (from end : ℕ) (old : List ℕ) : Result (Unit {0}) FileFault → List ℕ → Type 0 where
  outside : (Inside m e from end (length old) → ⊥) → Takes m e from end old (Err Range) old
  filled : Inside m e from end (length old) → AllRead m (e.start + from) (length old) → Takes m e from end old (Ok tt) (part (file m e) from (length old))
  stopped : {f : DeviceFault} → Inside m e from end (length old) → (b : FirstBad m (e.start + from) (length old) f)
      → Takes m e from end old (Err (Device (located f 256 from))) (part (file m e) from b.k ++ drop b.k old)

-- fetch fills its buffer with the part of the data found that begins at an offset
abbrev pub Fetch : Meaning → Extent → Found → ℕ → List ℕ → Result (Unit {0}) FileFault → List ℕ → Type 0
Fetch m e x offset old r new = Takes m e (x.place + offset) (x.place + x.len) old r new
