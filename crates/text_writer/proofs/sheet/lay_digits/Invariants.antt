use Rattle.std.proofs.Common.{◌^◌, ◌<◌}
use Rattle.text_writer.proofs.Digits.{Written}
use Rattle.text_writer.proofs.sheet.lay_digits.Given as goal

abbrev pub invariant-loop-rest : goal.invariant-loop-rest
invariant-loop-rest l = Written l.initial.buffer l.buffer l.at l.number l.rest l.place × (l.rest < 2 ^ 64)

abbrev pub decreases-loop-rest : goal.decreases-loop-rest
decreases-loop-rest l = l.rest
