use Rattle.std.proofs.Common.{◌≡◌, map, take, length}
use Rattle.script.specs.Scripts.{lines_of, numbered}
use Rattle.script.proofs.Counted.{Stands}
use Rattle.script.proofs.whole.parse.Given as goal

abbrev pub invariant-loop-line : goal.invariant-loop-line
invariant-loop-line l = (l.number ≡ length l.yielded) × Stands (take l.number (lines_of l.text)) l.sizes (map numbered l.lines.items)
