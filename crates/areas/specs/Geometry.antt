-- Where the root and the two areas of a shelf lie on its device.
use Rattle.std.specs.Prelude.{◌≡◌, ℕ, ◌+◌, ◌-◌, ◌*◌, ◌/◌, List, ◌++◌, replicate, Ok, Err, Result, ◌≢◌}
use Rattle.byte_lists.specs.Bytes.{word}
use Rattle.areas.specs.declared.area.Area.{Area}
use Rattle.areas.specs.declared.area.UnknownArea.{UnknownArea}
use Rattle.areas.specs.declared.area.Area.TheVariants.{Zero, One}

-- an area's number, as the root has it
abbrev pub number : Area → ℕ
number Zero = 0
number One = 1

-- the area of a number, or the number, where no area has it
abbrev pub Numbered : ℕ → Result Area UnknownArea → Type 0
Numbered n (Ok a) = n ≡ number a
Numbered n (Err e) = (e.0 ≡ n) × ((a : Area) → n ≢ number a)

-- the other area
abbrev pub other : Area → Area
other Zero = One
other One = Zero

-- how many sectors an area has, on a device of n sectors
abbrev pub half : ℕ → ℕ
half n = (n - 1) / 2

-- the first sector of an area: area 0 follows sector 0, and area 1 follows area 0
abbrev pub first_sector : ℕ → Area → ℕ
first_sector n Zero = 1
first_sector n One = 1 + half n

-- how many sectors an area has
abbrev pub sectors_in : ℕ → Area → ℕ
sectors_in n a = half n

-- the first byte of an area
abbrev pub area_start : ℕ → Area → ℕ
area_start n a = 512 * first_sector n a

-- how many bytes an area has
abbrev pub area_size : ℕ → Area → ℕ
area_size n a = 512 * sectors_in n a

-- the root: the live area and the live length as two words, then 504 zero bytes; it fills sector 0
unfoldable pub root_bytes : Area → ℕ → List ℕ
root_bytes a len = (word (number a) ++ word len) ++ replicate 504 0
