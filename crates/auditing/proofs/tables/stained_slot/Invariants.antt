use Rattle.std.proofs.Common.{ℕ, ◌<◌}
use Rattle.file.specs.ReadableFiles.{contents, SameFile}
use Rattle.auditing.specs.Tables.{ClearAt}
use Rattle.auditing.proofs.tables.stained_slot.Given as goal

abbrev pub invariant-loop-i : goal.invariant-loop-i
invariant-loop-i g l = record {
  kept : (j : ℕ) → j < l.i → ClearAt (contents l.initial.file) l.pos j;
  same : SameFile l.initial.file l.file;
}
