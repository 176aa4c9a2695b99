-- What memory means as a device.
use Rattle.std.specs.Prelude.{ℕ, ◌*◌, ◌/◌, min, Bool, List, length, take, drop}
use Rattle.device.specs.Meanings.{Meaning, Writes, good}

-- as many sectors as fit
abbrev pub fitting : List ℕ → ℕ
fitting xs = min (length xs / 512) 8388607

-- these bytes as a device, all of whose sectors are good; a tail shorter than a sector is not on it
abbrev pub memory : List ℕ → Bool → Writes → Meaning
memory xs on w = record { sectors = fitting xs; bytes = take (512 * fitting xs) xs; condition = λ _. good; power = on; left = w }

-- the tail that is not on the device
abbrev pub tail : List ℕ → List ℕ
tail xs = drop (512 * fitting xs) xs
