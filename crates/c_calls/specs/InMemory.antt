-- The audit and the lookup by number for the file of len bytes that some memory begins with.
use Rattle.std.specs.Prelude.{◌≡◌, ℕ, ◌*◌, ◌≤◌, true, List, take, Ok, Err, Option, Result}
use Rattle.faults.specs.declared.file.FileFault.{FileFault}
use Rattle.faults.specs.declared.file.FileFault.TheVariants.{Range}
use Rattle.device.specs.Meanings.{endless}
use Rattle.memory.specs.Memories.{memory, fitting}
use Rattle.cdb.specs.Records.{Record}
use Rattle.cdb.specs.Rules.{Lawful}
use Rattle.cdb.specs.Verdicts.{Judged}
use Rattle.file.specs.declared.extents.Extent.{Extent}
use Rattle.auditing.specs.declared.audits.Counts.{Counts}
use Rattle.auditing.specs.Audits.{verdict}
use Rattle.lookup.specs.declared.cursors.Found.{Found}
use Rattle.lookup_runs.specs.Datas.{datas}
use Rattle.lookup_nth.specs.Nths.{numbered, Nth}

-- the file lies in the whole sectors of the memory
abbrev pub Fits : List ℕ → ℕ → Type 0
Fits xs len = len ≤ 512 * fitting xs

-- a file that fits gets the verdict on its bytes, any other is refused with 11
abbrev pub AuditsMemory : List ℕ → ℕ → Result Counts FileFault → Type 0
AuditsMemory xs len r = (Fits xs len → Judged (take len xs) (verdict r)) × ((Fits xs len → ⊥) → r ≡ Err Range)

-- a file that fits gets the answer of the lookup by number on this memory, any other is refused with 11
abbrev pub FindsInMemory : List ℕ → ℕ → List ℕ → ℕ → Result (Option Found) FileFault → Type 0
FindsInMemory xs len key n r =
    (Fits xs len → (e : Extent) × (e.start ≡ 0) × (e.len ≡ len) × Nth (memory xs true endless) e key n r) × ((Fits xs len → ⊥) → r ≡ Err Range)

-- in a lawful file that fits, with these records, it is number n of the data of the records with the key, in file order
abbrev pub FindGivesRecord : List ℕ → ℕ → List ℕ → ℕ → Result (Option Found) FileFault → Type 0
FindGivesRecord xs len key n r = (rs : List Record) → Fits xs len → Lawful (take len xs) rs → r ≡ Ok (numbered n (datas 2048 rs key))
