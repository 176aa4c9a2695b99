use Rattle.std.proofs.Common.{◌+◌, ◌*◌, ◌<◌, ◌∙◌, arith, rules}
use Rattle.file.specs.Extents.{WordsAt}
use Rattle.file.specs.ReadableFiles.{contents}
use Rattle.file.proofs.SameFiles.{same_file_then}
use Rattle.auditing.proofs.Fillings.{filled_more, empty_more, filled_all}
use Rattle.auditing.proofs.tables.count_filled.Goals as goal
use Rattle.auditing.proofs.tables.count_filled.Goals.{then-words-gt0, else-words-gt0}

pub loop-i-preserved : goal.loop-i-preserved
loop-i-preserved g c =
    let f = contents c.args.file.now in
    let i = c.loop-i.i in
    let r = c.words.result in
    let inv = c.loop-i.invariant in
    let pair : WordsAt f (c.args.pos + 8 * i) r = rw inv.same.contents at c.words.ensures.words in
    let l : i < c.args.len = search rules in
    let same = same_file_then inv.same c.words.ensures.same in
    elim c.if-words-gt0.branch [
      | then-words-gt0 w ↦ record { few = omega (arith, w.filled-is); counted = w.filled-is ∙ filled_more f c.args.pos c.args.len i c.loop-i.filled r l pair inv.counted w.if-words-gt0.true; same = same }
      | else-words-gt0 w ↦ record { few = omega (arith, w.filled-is); counted = w.filled-is ∙ empty_more f c.args.pos c.args.len i c.loop-i.filled r l pair inv.counted w.if-words-gt0.false; same = same }
    ]

pub returns-clause-answer : goal.returns-clause-answer
returns-clause-answer g c = filled_all (contents c.args.file.now) c.args.pos c.args.len c.loop-i.i c.loop-i.filled (search rules) c.loop-i.invariant.counted
