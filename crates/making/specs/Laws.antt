-- What a made file gives back, and what a device's refusal is owed to.
use Rattle.std.specs.Prelude.{◌≡◌, ℕ, ◌*◌, ◌≤◌, true, false, List, map, ◌++◌, length, take, Ok, Err, Option, Result}
use Rattle.byte_lists.specs.Bytes.{part}
use Rattle.faults.specs.declared.device.DeviceFault.{DeviceFault}
use Rattle.faults.specs.declared.device.DeviceFault.TheVariants.{Power, Bad}
use Rattle.faults.specs.declared.file.FileFault.{FileFault}
use Rattle.device.specs.Meanings.{Meaning, some, is_bad}
use Rattle.cdb.specs.Records.{Record}
use Rattle.cdb.specs.Rules.{Lawful}
use Rattle.file.specs.declared.extents.Extent.{Extent}
use Rattle.file.specs.Extents.{Readable, file}
use Rattle.lookup.specs.declared.cursors.Cursor.{Cursor}
use Rattle.lookup.specs.Starts.{Start}
use Rattle.lookup_runs.specs.declared.calls.Call as calls
use Rattle.lookup_runs.specs.Runs as runs
use Rattle.lookup_runs.specs.Laws.{Gives, wrote}
use Rattle.records.specs.declared.placed.PlacedRecord.{PlacedRecord}
use Rattle.records.specs.Readings.{record_of, Hands}
use Rattle.records.specs.Laws.{Calls, told, first}
use Rattle.c_calls.specs.InMemory.{Fits}
use Rattle.dumping.specs.declared.fault.DumpFault.{DumpFault}
use Rattle.dumping.specs.Dumps.{Dumps}
use Rattle.writing.specs.Runs.{Touches, Counted, at_place}
use Rattle.text.specs.Texts.{text, TextOf}
use Rattle.making.specs.declared.fault.MakeFault.{MakeFault}
use Rattle.making.specs.declared.fault.MakeFault.TheVariants.{Text, Entries, Long, File}
use Rattle.making.specs.Sizes.{made_length}

-- what is read from a file are these records: it has no others, the record reader hands them out in order, and then the end, and wherever the file
-- stands on a device that can be read, lookups give the data of those with the key, in order, and are not refused
pub record GivesBack (f : List ℕ) (rs : List Record) : Type 0 where
  pub only : (ss : List Record) → Lawful f ss → ss ≡ rs
  pub reader : (es : List PlacedRecord) (q : ℕ) → Calls f 2048 es q
      → (after : List Record) × (rs ≡ map record_of es ++ after) × ((r : Result (Option PlacedRecord) FileFault) (t : ℕ) → Hands f q r t → told r ≡ first after)
  pub starts : (m : Meaning) (e : Extent) (key : List ℕ) (x : FileFault) → Readable m e → file m e ≡ f → Start m e key (Err x) → ⊥
  pub lookups : (m : Meaning) (e : Extent) (key : List ℕ) (c c' : Cursor) (b b' : List ℕ) (ks : List calls.Call) (es : List runs.Event)
      → Readable m e → file m e ≡ f → Start m e key (Ok c) → runs.Run m e key c b ks es c' b' → Gives rs key es × (b' ≡ wrote es b)

-- a file gives this text: it is the text of its records, whatever these are, and the dump of the file is this text, byte for byte, wherever in memory the
-- file lies, and into whatever buffer that has room
pub record GivesText (t f : List ℕ) : Type 0 where
  pub text : (ss : List Record) → Lawful f ss → text ss ≡ t
  pub dump : (xs : List ℕ) (len room : ℕ) (b : List ℕ) (r : Result ℕ DumpFault) (c : List ℕ)
      → Fits xs len → take len xs ≡ f → length t ≤ room → Dumps xs len room b r c → (r ≡ Ok (length t)) × (take (length t) c ≡ t)

-- a file that is made from a text gives the text's records back, and the text
abbrev pub GivesTheTextBack : List ℕ → Result ℕ MakeFault → Meaning → Type 0
GivesTheTextBack t (Ok len) n =
    ((rs : List Record) → TextOf t rs → GivesBack (part n.bytes 0 len) rs) × GivesText t (part n.bytes 0 len)
GivesTheTextBack t (Err x) n = Unit {0}

-- why a device refuses to take so many bytes from a place on: power was off, or went as the writes ran out, or one of the sectors is bad, which is named
pub data Cause (m : Meaning) (p len : ℕ) (n : Meaning) : DeviceFault → Type 0 where
  off : m.power ≡ false → Cause m p len n Power
  ran_out : m.power ≡ true → Counted m.left → n.power ≡ false → n.left ≡ some 0 → Cause m p len n Power
  bad : (s : ℕ) → m.power ≡ true → Touches p len s → is_bad m s ≡ true → Cause m p len n (Bad (512 * s))

-- a device's refusal has a cause in it
abbrev pub RefusedForCause : Meaning → List ℕ → Result ℕ MakeFault → Meaning → Type 0
RefusedForCause m t (Err (File x)) n = (rs : List Record) × TextOf t rs × (f : DeviceFault) × (p : ℕ) × (x ≡ at_place f p) × Cause m 0 (made_length rs) n f
RefusedForCause m t (Err (Text f)) n = Unit {0}
RefusedForCause m t (Err Entries) n = Unit {0}
RefusedForCause m t (Err (Long limit)) n = Unit {0}
RefusedForCause m t (Ok len) n = Unit {0}
