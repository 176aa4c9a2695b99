use Rattle.std.proofs.Common.{◌≡◌, ℕ, ◌-◌, ◌*◌, ◌<◌, ◌≤◌, length, get_or}
use Rattle.file.specs.ReadableFiles.{contents, SameFile}
use Rattle.scanning.specs.Sweeps.{Met, Ahead, Swept}
use Rattle.scanning.proofs.placing.place_records.Given as goal

abbrev pub invariant-loop-place : goal.invariant-loop-place
invariant-loop-place g l = record {
  after : 2048 ≤ l.place;
  within : l.place ≤ l.end;
  ahead : Ahead (contents l.initial.file) l.place l.end;
  met : Met (contents l.initial.file) l.place l.probes l.counts;
  few : l.probes ≤ 4294967296 * (l.place - 2048);
  tables : length l.counts ≡ 256;
  counts : (t : ℕ) → t < 256 → get_or l.counts t 0 ≤ l.place - 2048;
  swept : Swept (contents l.initial.file) l.place l.end l.low;
  same : SameFile l.initial.file l.file;
}

abbrev pub decreases-loop-place : goal.decreases-loop-place
decreases-loop-place g l = l.end - l.place
