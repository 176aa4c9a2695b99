use Rattle.std.proofs.Common.{◌≡◌, ℕ, ◌*◌, ◌<◌, length, take}
use Rattle.building.specs.Builds.{table_in}
use Rattle.building.specs.Entries.{count_before}
use Rattle.building.proofs.Counting.{Counted}
use Rattle.building.proofs.layout.tables_of.Given as goal

abbrev pub invariant-loop-entry : goal.invariant-loop-entry
invariant-loop-entry l = (length l.tables ≡ 256) × Counted l.tables (take l.entry-index l.entries)

abbrev pub invariant-loop-table : goal.invariant-loop-table
invariant-loop-table l = record {
  long : length l.table-items ≡ 256;
  next : l.next ≡ 16 * count_before l.table-index l.entries;
  offsets : (t : ℕ) → t < l.table-index → (table_in l.table-items t).offset ≡ 16 * count_before t l.entries;
  slots : Counted l.table-items l.entries;
}
