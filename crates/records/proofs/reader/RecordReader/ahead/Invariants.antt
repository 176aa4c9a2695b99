use Rattle.std.proofs.Common.{◌≤◌}
use Rattle.records.proofs.Walks.{Walked}
use Rattle.records.proofs.reader.RecordReader.ahead.Given as goal

abbrev pub invariant-loop-n : goal.invariant-loop-n
invariant-loop-n l = Walked l.file l.self.place l.place l.n × (l.place ≤ l.end)
