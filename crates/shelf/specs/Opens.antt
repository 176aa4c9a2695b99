-- What open answers.
use Rattle.std.specs.Prelude.{◌≡◌, Some, None, Ok, Err, Result}
use Rattle.faults.specs.declared.device.DeviceFault.{DeviceFault}
use Rattle.device.specs.Meanings.{Meaning, refusal}
use Rattle.shelf.specs.declared.fault.ShelfFault.{ShelfFault}
use Rattle.shelf.specs.declared.fault.ShelfFault.TheVariants.{File, Size, NoRoot, Entries, Full, Small}
use Rattle.shelf.specs.declared.states.Shelf.{Shelf}
use Rattle.areas.specs.Roots.{Names, NamesNone}
use Rattle.shelf.specs.Reports.{at_root}

-- the shelf of the root; 11, 21 or 22 where sector 0 cannot be read; 23 where no area and length fit its bytes
abbrev pub Opens : Meaning → Result Shelf ShelfFault → Type 0
Opens m (Ok s) = (refusal m 0 512 ≡ None) × (s.live.sectors ≡ m.sectors) × Names m s.live.root.area s.live.root.len
Opens m (Err NoRoot) = (refusal m 0 512 ≡ None) × NamesNone m
Opens m (Err (File x)) = (f : DeviceFault) × (refusal m 0 512 ≡ Some f) × (x ≡ at_root f)
Opens m (Err Size) = ⊥
Opens m (Err Entries) = ⊥
Opens m (Err Full) = ⊥
Opens m (Err Small) = ⊥
