use Rattle.std.proofs.Common.{ℕ, ◌<◌}
use Rattle.file.specs.ReadableFiles.{contents, SameFile}
use Rattle.auditing.specs.Tables.{Counted}
use Rattle.auditing.proofs.tables.check_counts.Given as goal

abbrev pub invariant-loop-t : goal.invariant-loop-t
invariant-loop-t g l = record {
  kept : (i : ℕ) → i < l.t → Counted (contents l.initial.file) l.counts i;
  same : SameFile l.initial.file l.file;
}
