-- The root of a shelf on its device.
use Rattle.std.specs.Prelude.{◌≡◌, ℕ, ◌≤◌, List}
use Rattle.byte_lists.specs.Bytes.{part}
use Rattle.device.specs.Meanings.{Meaning}
use Rattle.areas.specs.declared.area.Area.{Area}
use Rattle.areas.specs.Geometry.{area_size, root_bytes}

-- the bytes of sector 0, on a device of so many sectors, are a lawful root that names this live area and this live length:
-- the length lies from that of a header to that of the area
pub record LawfulRoot (bytes : List ℕ) (sectors : ℕ) (a : Area) (len : ℕ) : Type 0 where
  pub is : bytes ≡ root_bytes a len
  pub long : 2048 ≤ len
  pub fits : len ≤ area_size sectors a

-- the root on a device names this live area and this live length
abbrev pub Names : Meaning → Area → ℕ → Type 0
Names m a len = LawfulRoot (part m.bytes 0 512) m.sectors a len

-- sector 0 is no lawful root
abbrev pub NamesNone : Meaning → Type 0
NamesNone m = (a : Area) (len : ℕ) → Names m a len → ⊥
