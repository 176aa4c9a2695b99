-- The byte beside a file that flips.
use Rattle.std.specs.Prelude.{ℕ, ◌+◌, ◌-◌, cond, List, nat_lt, slice_index, slice_set}
use Rattle.file.specs.declared.extents.Extent.{Extent}

-- a place outside an extent: the first, or where the extent starts there, the one behind it
abbrev pub beside : Extent → ℕ
beside e = cond (nat_lt 0 e.start) 0 (e.start + e.len)

-- the bytes with b turned into 255 - b at a place; past the last byte nothing changes
abbrev pub flipped : List ℕ → ℕ → List ℕ
flipped xs p = slice_set xs p (255 - slice_index xs p)
