use Rattle.std.proofs.Common.{◌≡◌, ◌≤◌, ltb, take, count_by}
use Rattle.file.specs.ReadableFiles.{contents, SameFile}
use Rattle.cdb.specs.Tables.{Slot}
use Rattle.cdb.specs.Files.{slots_at}
use Rattle.auditing.proofs.tables.count_filled.Given as goal

abbrev pub invariant-loop-i : goal.invariant-loop-i
invariant-loop-i g l = record {
  few : l.filled ≤ l.i;
  counted : l.filled ≡ count_by (λ (s : Slot). ltb 0 s.place) (take l.i (slots_at (contents l.initial.file) l.pos l.len));
  same : SameFile l.initial.file l.file;
}
