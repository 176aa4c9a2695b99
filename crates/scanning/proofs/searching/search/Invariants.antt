use Rattle.file.specs.ReadableFiles.{contents, SameFile}
use Rattle.scanning.specs.Searches.{Passed, Lowest}
use Rattle.scanning.proofs.searching.search.Given as goal

abbrev pub invariant-loop-distance : goal.invariant-loop-distance
invariant-loop-distance g l = record {
  passed : Passed (contents l.initial.file) l.head.first l.head.second l.sought.hash l.sought.place l.distance;
  lowest : Lowest (contents l.initial.file) l.head.first l.head.second l.sought.hash l.sought.place l.distance l.best l.low;
  same : SameFile l.initial.file l.file;
}
