-- What writing the tables and the header of a file does.
use Rattle.std.specs.Prelude.{◌≡◌, ℕ, ◌+◌, ◌*◌, ◌<◌, true, false, ◌⊎◌, List, length, Ok, Err, Result}
use Rattle.byte_lists.specs.Bytes.{part}
use Rattle.faults.specs.declared.device.DeviceFault.{DeviceFault}
use Rattle.faults.specs.declared.file.FileFault.{FileFault}
use Rattle.device.specs.Meanings.{Meaning, is_bad}
use Rattle.cdb.specs.Tables.{Fills}
use Rattle.cdb.specs.Files.{slots_at}
use Rattle.writing.specs.Runs.{Touches, Outside, Used, Keeps, Interrupted, at_place}
use Rattle.building.specs.declared.entries.Entry.{Entry}
use Rattle.building.specs.Entries.{count_of, count_before, puts_into, Tabled}

-- the tables of the entries are written, from a place of the device on
pub record Built (m : Meaning) (from : ℕ) (es : List Entry) (n : Meaning) : Type 0 where
  pub keeps : Keeps m (Outside from (16 * length es)) n
  pub power : n.power ≡ m.power
  pub left : Used (16 * length es) m.left n.left
  pub on : 0 < length es → m.power ≡ true
  pub good : (s : ℕ) → Touches from (16 * length es) s → is_bad m s ≡ false
  pub none : length es ≡ 0 → n ≡ m
  pub tables : (t : ℕ) → t < 256 → Fills (2 * count_of t es) (puts_into t es) (slots_at n.bytes (from + 16 * count_before t es) (2 * count_of t es))

-- the tables are written, or refused
abbrev pub Builds : Meaning → ℕ → List Entry → Result (Unit {0}) DeviceFault → Meaning → Type 0
Builds m from es (Ok _) n = Built m from es n
Builds m from es (Err f) n = Interrupted m from (16 * length es) f n

-- the file at a place of the device, whose records end at a place of the file, has got the tables of the entries and its header;
-- nothing else changed, and no sector of a table or of the header is bad
pub record Closed (m : Meaning) (base end : ℕ) (es : List Entry) (n : Meaning) : Type 0 where
  pub keeps : Keeps m (λ k. Outside (base + end) (16 * length es) k × Outside base 2048 k) n
  pub power : n.power ≡ m.power
  pub left : Used (2048 + 16 * length es) m.left n.left
  pub on : m.power ≡ true
  pub tables_good : (s : ℕ) → Touches (base + end) (16 * length es) s → is_bad m s ≡ false
  pub header_good : (s : ℕ) → Touches base 2048 s → is_bad m s ≡ false
  pub tabled : Tabled (part n.bytes base (end + 16 * length es)) end es

-- the tables are written, and then the header is refused
pub record HeaderRefused (m : Meaning) (base end : ℕ) (es : List Entry) (f : DeviceFault) (n : Meaning) : Type 0 where
  pub between : Meaning
  pub built : Built m (base + end) es between
  pub refused : Interrupted between base 2048 f n

-- done; or refused in the tables, told with the place where they start; or in the header, told with place 0
abbrev pub Closes : Meaning → ℕ → ℕ → List Entry → Result (Unit {0}) FileFault → Meaning → Type 0
Closes m base end es (Ok _) n = Closed m base end es n
Closes m base end es (Err x) n =
    (f : DeviceFault)
    × (((x ≡ at_place f end) × Interrupted m (base + end) (16 * length es) f n) ⊎ ((x ≡ at_place f 0) × HeaderRefused m base end es f n))
