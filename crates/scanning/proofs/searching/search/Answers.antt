use Rattle.std.proofs.Common.{◌≡◌, ℕ, ◌+◌, ◌*◌, ap, below_more}
use Rattle.file.specs.Extents.{WordsAt}
use Rattle.file.specs.ReadableFiles.{contents}
use Rattle.file.proofs.SameFiles.{same_file_then}
use Rattle.scanning.specs.Searches.{slot_place, Lowers}
use Rattle.scanning.proofs.Probes.{passed_here}
use Rattle.scanning.proofs.Ranks.{lowest_more}
use Rattle.scanning.proofs.searching.search.Goals as goal

pub loop-distance-preserved : goal.loop-distance-preserved
loop-distance-preserved g c =
    let f = contents c.args.file.now in
    let head = c.args.head in
    let hash = c.args.sought.hash in
    let place = c.args.sought.place in
    let j = c.loop-distance.distance in
    let low = c.loop-distance.low in
    let r = c.words-slot.result in
    let inv = c.loop-distance.invariant in
    let s2 = same_file_then inv.same c.words-slot.ensures.same in
    let p : ℕ = head.first + 8 * c.slot_away.result in
    let pair : WordsAt f p r = rw inv.same.contents at c.words-slot.ensures.words in
    let z : p ≡ slot_place head.first head.second hash j = ap (λ (i : ℕ). head.first + 8 * i) c.slot_away.ensures.slot in
    let lo : Lowers f hash place r.first r.second low c.lowered-low.result = rw s2.contents at c.lowered-low.ensures.answer in
    record {
      passed = below_more _ _ inv.passed (passed_here f p _ hash place r pair z c.if-slot-eq0.false c.else-slot-sought.either);
      lowest = lowest_more f head.first head.second hash place j c.args.best low c.lowered-low.result r p pair z inv.lowest lo;
      same = same_file_then s2 c.lowered-low.ensures.same;
    }
