use Rattle.std.proofs.Common.{ℕ, ◌<◌}
use Rattle.file.specs.ReadableFiles.{contents, SameFile}
use Rattle.auditing.specs.Tables.{TableClear}
use Rattle.auditing.proofs.tables.check_clear.Given as goal

abbrev pub invariant-loop-t : goal.invariant-loop-t
invariant-loop-t g l = record {
  kept : (i : ℕ) → i < l.t → TableClear (contents l.initial.file) i;
  same : SameFile l.initial.file l.file;
}
