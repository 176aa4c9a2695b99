-- Files that are known to be readable.
use Rattle.std.specs.Prelude.{◌≡◌, List, ℕ}
use Rattle.device.specs.Meanings.{Meaning}
use Rattle.device.specs.declared.device.Device.{Ghosts}
use Rattle.file.specs.Extents.{file}
use Rattle.file.specs.declared.readable_file.ReadableFile.{ReadableFile}

module _ {D : Type 0} {means : Ghosts D} where
  -- what the device of a file means
  abbrev pub device_of : ReadableFile D means → Meaning
  device_of f = means.meaning f.device.now

  -- the bytes of a file
  abbrev pub contents : ReadableFile D means → List ℕ
  contents f = file (device_of f) f.extent

  -- the same file, on the same device
  pub record SameFile (old new : ReadableFile D means) : Type 0 where
    pub contents : contents new ≡ contents old
    pub device : device_of new ≡ device_of old
    pub extent : new.extent ≡ old.extent
    pub lent : new.device.ghost_name ≡ old.device.ghost_name
