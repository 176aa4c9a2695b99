-- Rule 2 for a header entry, in numbers, and what a header that keeps it gives.
use Rattle.std.specs.Prelude.{◌≡◌, ℕ, ◌+◌, ◌*◌, ◌<◌, ◌≤◌, List, length}
use Rattle.faults.specs.declared.file.FileFault.{FileFault}
use Rattle.faults.specs.declared.file.FileFault.TheVariants.{Entry}
use Rattle.cdb.specs.Files.{position, ends}
use Rattle.cdb.specs.Rules.{Rule2, First, Each}

-- the entry of table t says pos and count, in a file of len bytes, where due is the end of the table before
pub record Stands (t due pos count len : ℕ) : Type 0 where
  pub first : t ≡ 0 → (2048 ≤ pos) × (pos ≤ len)
  pub abuts : 0 < t → pos ≡ due
  pub within : pos + 8 * count ≤ len
  pub last : t ≡ 255 → pos + 8 * count ≡ len

-- the first table whose entry breaks rule 2 is refused
pub record BreaksEntry (f : List ℕ) (x : FileFault) : Type 0 where
  pub table : ℕ
  pub first : First 256 (Rule2 f) table
  pub told : x ≡ Entry table

-- the header and all tables lie inside the file
pub record TablesInside (f : List ℕ) : Type 0 where
  pub header : 2048 ≤ length f
  pub tables : (t : ℕ) → t < 256 → ends f t ≤ length f

-- a header that keeps rule 2, and where the records end: at the first table
pub record Header (f : List ℕ) (end : ℕ) : Type 0 where
  pub entries : Each (Rule2 f)
  pub first : end ≡ position f 0
  pub after : 2048 ≤ end
  pub within : end ≤ length f
  pub tables : TablesInside f
