use Rattle.std.proofs.Common.{◌≡◌}
use Rattle.dumping.proofs.Walked.{Measured}
use Rattle.dumping.proofs.measuring.measure.Given as goal

abbrev pub invariant-loop : goal.invariant-loop
invariant-loop l = (l.reader.file.now ≡ l.file) × Measured l.file l.records l.counter l.reader.place l.len
