use Rattle.std.proofs.Common.{◌≡◌}
use Rattle.dumping.proofs.Walked.{Written}
use Rattle.dumping.proofs.laying.lay_text.Given as goal

abbrev pub invariant-loop : goal.invariant-loop
invariant-loop l = (l.reader.file.now ≡ l.file) × Written l.file l.records l.counter l.reader.place l.initial.sheet l.sheet
