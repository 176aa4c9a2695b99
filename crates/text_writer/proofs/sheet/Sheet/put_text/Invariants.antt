use Rattle.std.proofs.Common.{map, take}
use Rattle.std.specs.List.{flat_map}
use Rattle.text.specs.Texts.{line}
use Rattle.text.specs.Readings.{lent}
use Rattle.text_writer.specs.Sheets.{Adds}
use Rattle.text_writer.proofs.sheet.Sheet.put_text.Given as goal

abbrev pub invariant-loop-one : goal.invariant-loop-one
invariant-loop-one l = Adds (flat_map line (map lent (take l.one-index l.records))) l.initial.self l.self
