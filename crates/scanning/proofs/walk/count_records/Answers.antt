use Rattle.std.proofs.Common.{refl, arith}
use Rattle.file.specs.Extents.{WordsAt}
use Rattle.file.specs.ReadableFiles.{contents}
use Rattle.file.proofs.SameFiles.{same_file_then}
use Rattle.scanning.proofs.Walks.{count_more}
use Rattle.scanning.proofs.walk.count_records.Goals as goal

pub loop-place-preserved : goal.loop-place-preserved
loop-place-preserved g c =
    let f = contents c.args.file.now in
    let inv = c.loop-place.invariant in
    let pair : WordsAt f c.loop-place.place c.words-words.result = rw inv.same.contents at c.words-words.ensures.words in
    record {
      few = omega arith;
      within = omega arith;
      counted = count_more f c.loop-place.place c.loop-place.count _ c.words-words.result pair inv.counted refl (omega arith);
      same = same_file_then inv.same c.words-words.ensures.same;
    }
