-- The inner steps of reading and writing a root.
use Rattle.std.specs.Prelude.{◌≡◌, ℕ, List, Some, None, Ok, Err, Option, Result}
use Rattle.byte_lists.specs.Bytes.{part}
use Rattle.faults.specs.declared.device.DeviceFault.{DeviceFault}
use Rattle.faults.specs.declared.file.FileFault.{FileFault}
use Rattle.device.specs.Meanings.{Meaning, refusal, Written}
use Rattle.writing.specs.Runs.{at_place}
use Rattle.areas.specs.declared.area.Area.{Area}
use Rattle.areas.specs.declared.roots.Root.{Root}
use Rattle.areas.specs.Geometry.{root_bytes}
use Rattle.areas.specs.Roots.{LawfulRoot, Names, NamesNone}

-- the root is written by one write
abbrev pub WritesRoot : Meaning → Area → ℕ → Result (Unit {0}) FileFault → Meaning → Type 0
WritesRoot m a len (Ok _) n = Written m 0 (root_bytes a len) (Ok tt) n
WritesRoot m a len (Err x) n = (f : DeviceFault) × (x ≡ at_place f 0) × Written m 0 (root_bytes a len) (Err f) n

-- sector 0 is read
abbrev pub ReadsSector : Meaning → Result (Unit {0}) FileFault → List ℕ → Type 0
ReadsSector m (Ok _) bytes = (refusal m 0 512 ≡ None) × (bytes ≡ part m.bytes 0 512)
ReadsSector m (Err x) bytes = (f : DeviceFault) × (x ≡ at_place f 0) × (refusal m 0 512 ≡ Some f)

-- the lawful root that bytes are
abbrev pub RootIn : List ℕ → ℕ → Option Root → Type 0
RootIn bytes sectors (Some r) = LawfulRoot bytes sectors r.area r.len
RootIn bytes sectors None = (a : Area) (len : ℕ) → LawfulRoot bytes sectors a len → ⊥

-- the root is read, if it is lawful
abbrev pub ReadsRoot : Meaning → Result (Option Root) FileFault → Type 0
ReadsRoot m (Ok (Some r)) = (refusal m 0 512 ≡ None) × Names m r.area r.len
ReadsRoot m (Ok None) = (refusal m 0 512 ≡ None) × NamesNone m
ReadsRoot m (Err x) = (f : DeviceFault) × (x ≡ at_place f 0) × (refusal m 0 512 ≡ Some f)
