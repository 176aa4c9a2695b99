use Rattle.std.proofs.Common.{◌≡◌, ℕ, ◌-◌, ◌<◌}
use Rattle.file.specs.ReadableFiles.{contents, SameFile}
use Rattle.cdb.specs.Rules.{Rule2}
use Rattle.cdb.specs.Files.{ends}
use Rattle.scanning.proofs.header.check_header.Given as goal

abbrev pub invariant-loop-t : goal.invariant-loop-t
invariant-loop-t g l = record {
  kept : (i : ℕ) → i < l.t → Rule2 (contents l.initial.file) i;
  due : 0 < l.t → l.due ≡ ends (contents l.initial.file) (l.t - 1);
  same : SameFile l.initial.file l.file;
}
