use Rattle.std.proofs.Common.{◌+◌, ◌-◌, ◌*◌, ◌≤◌}
use Rattle.file.specs.ReadableFiles.{contents, SameFile}
use Rattle.scanning.specs.Sweeps.{CountTo}
use Rattle.scanning.proofs.walk.count_records.Given as goal

abbrev pub invariant-loop-place : goal.invariant-loop-place
invariant-loop-place g l = record {
  few : 2048 + 8 * l.count ≤ l.place;
  within : l.place ≤ l.end;
  counted : CountTo (contents l.initial.file) l.place l.count;
  same : SameFile l.initial.file l.file;
}

abbrev pub decreases-loop-place : goal.decreases-loop-place
decreases-loop-place g l = l.end - l.place
