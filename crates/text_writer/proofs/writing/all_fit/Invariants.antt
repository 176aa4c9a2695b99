use Rattle.std.proofs.Common.{◌≡◌, ◌+◌, map, length, drop}
use Rattle.text.specs.Texts.{text}
use Rattle.text.specs.Readings.{lent}
use Rattle.text_writer.proofs.writing.all_fit.Given as goal

abbrev pub invariant-loop-one : goal.invariant-loop-one
invariant-loop-one l = length (text (map lent l.records)) + l.left ≡ l.room + length (text (map lent (drop l.one-index l.records)))
