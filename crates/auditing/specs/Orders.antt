-- Rule 8, once the lowest record that overtakes another is known.
use Rattle.std.specs.Prelude.{◌≡◌, ℕ, ◌<◌, ◌≤◌, List, Ok, Err, Result}
use Rattle.faults.specs.declared.file.FileFault.{FileFault}
use Rattle.faults.specs.declared.file.FileFault.TheVariants.{Order}
use Rattle.cdb.specs.Records.{table_of}
use Rattle.scanning.specs.Searches.{item_at}

-- done if there is none before end, else refused by its table and place
abbrev pub Ordered : List ℕ → ℕ → ℕ → Result (Unit {0}) FileFault → Type 0
Ordered f end low (Ok x) = end ≤ low
Ordered f end low (Err y) = (low < end) × (y ≡ Order (table_of (item_at f low).key) low)
