-- What becomes of a device over memory.
use Rattle.std.specs.Prelude.{◌≡◌, ℕ, true, List, []}
use Rattle.device.specs.Meanings.{Meaning, Writes}
use Rattle.memory.specs.declared.writing.RootTear.{RootTear}
use Rattle.memory.specs.declared.writing.WriteMemory.{WriteMemory}

-- the device with its power on, and so many writes left
abbrev pub restarted : Meaning → Writes → Meaning
restarted m w = record { sectors = m.sectors; bytes = m.bytes; condition = m.condition; power = true; left = w }

-- a layer has marked no sector
abbrev pub IsEmpty : List ℕ → Type 0
IsEmpty xs = xs ≡ []

-- what a torn write of sector 0 of memory stores
abbrev pub tear_of : WriteMemory → RootTear
tear_of d = d.tear
