-- The verdict on the bytes of a file.
use Rattle.std.specs.Prelude.{◌≡◌, ℕ, zero, suc, ◌+◌, ◌*◌, ◌<◌, List, [], ◌∷◌, length}
use Rattle.std.specs.List.{AllByRecursion}
use Rattle.faults.specs.declared.report.Report.{Report}
use Rattle.faults.specs.Reports.{report}
use Rattle.cdb.specs.Records.{Record, Item, items, table_of}
use Rattle.cdb.specs.Tables.{Distance}
use Rattle.cdb.specs.Files.{position, slot_count, slots_of}
use Rattle.cdb.specs.Rules.{First, FirstOf, Each, Rule1, Rule2, Rule3, Passes, Rule4, Rule5, Rule6, Clear, Rule7, Rule8, Lawful}

-- accepted, with three counts; or refused, with the number of the first rule broken, a table and a place
pub data Verdict : Type 0 where
  accepted : (records slots probes : ℕ) → Verdict
  refused : Report → Verdict

-- how many slots the tables below t have
unfoldable pub slots_below : List ℕ → ℕ → ℕ
slots_below f zero = 0
slots_below f (suc t) = slots_below f t + slot_count f t

-- n is the sum, over the records, of distance plus one
abbrev pub Probes : List ℕ → List Item → ℕ → Type 0
Probes f [] n = n ≡ 0
Probes f (x ∷ xs) n = (j : ℕ) × (m : ℕ) × Distance (slots_of f x) x j × Probes f xs m × (n ≡ j + 1 + m)

-- the rules are judged in turn, and the first table, record or slot that breaks the first broken one is named
pub data Judged (f : List ℕ) : Verdict → Type 0 where
  broken_1 : length f < 2048 → Judged f (refused (report 1 256 (length f)))
  broken_2 : {t : ℕ} → Rule1 f → First 256 (Rule2 f) t → Judged f (refused (report 2 t (8 * t)))
  broken_3 : {p : ℕ} → Rule1 f → Each (Rule2 f) → Passes f p → Judged f (refused (report 3 256 p))
  broken_4 : (rs : List Record) {x : Item} → Rule1 f → Each (Rule2 f) → Rule3 f rs
      → FirstOf (items 2048 rs) (Rule4 f) x → Judged f (refused (report 4 (table_of x.key) x.place))
  broken_5 : (rs : List Record) {t : ℕ} → Rule1 f → Each (Rule2 f) → Rule3 f rs → AllByRecursion (Rule4 f) (items 2048 rs)
      → First 256 (Rule5 f rs) t → Judged f (refused (report 5 t (position f t)))
  broken_6 : (rs : List Record) {t : ℕ} → Rule1 f → Each (Rule2 f) → Rule3 f rs → AllByRecursion (Rule4 f) (items 2048 rs) → Each (Rule5 f rs)
      → First 256 (Rule6 f) t → Judged f (refused (report 6 t (position f t)))
  broken_7 : (rs : List Record) {t i : ℕ} → Rule1 f → Each (Rule2 f) → Rule3 f rs → AllByRecursion (Rule4 f) (items 2048 rs) → Each (Rule5 f rs) → Each (Rule6 f)
      → First 256 (Rule7 f) t → First (slot_count f t) (Clear f t) i → Judged f (refused (report 7 t (position f t + 8 * i)))
  broken_8 : (rs : List Record) {x : Item} → Rule1 f → Each (Rule2 f) → Rule3 f rs → AllByRecursion (Rule4 f) (items 2048 rs) → Each (Rule5 f rs) → Each (Rule6 f)
      → Each (Rule7 f) → FirstOf (items 2048 rs) (Rule8 f rs) x → Judged f (refused (report 8 (table_of x.key) x.place))
  keeps_all : (rs : List Record) {n : ℕ} → Lawful f rs → Probes f (items 2048 rs) n → Judged f (accepted (length rs) (slots_below f 256) n)
