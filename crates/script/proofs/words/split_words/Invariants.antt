use Rattle.std.proofs.Common.{map, length}
use Rattle.script.proofs.Reading.{ReadSoFar}
use Rattle.script.proofs.words.split_words.Given as goal

abbrev pub invariant-loop-piece : goal.invariant-loop-piece
invariant-loop-piece l = ReadSoFar l.line (map (λ w. w.now) l.words.items) l.gap (length l.yielded)
