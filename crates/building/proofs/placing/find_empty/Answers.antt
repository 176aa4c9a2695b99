use Rattle.std.proofs.Common.{◌≡◌, ℕ, ◌+◌, ◌*◌, sym, ap, subst}
use Rattle.device.specs.Meanings.{Meaning}
use Rattle.file.specs.Ranges.{AllRead}
use Rattle.building.proofs.Ranged.{range_part}
use Rattle.building.proofs.Settled.{slot_inside}
use Rattle.building.proofs.placing.find_empty.Goals as goal

pub place_in-requires-clause-reads : goal.place_in-requires-clause-reads
place_in-requires-clause-reads g c =
    let m : Meaning = g.D.Device.meaning c.args.d.now in
    let n : Meaning = g.D.Device.meaning c.loop-distance.d in
    let same : n ≡ m = c.loop-distance.invariant.0 in
    let p : ℕ = c.args.pos + 8 * c.slot_away.result in
    let i = slot_inside c.args.pos c.args.len c.args.hash c.loop-distance.distance p c.loop-distance-test.true (ap (λ (q : ℕ). c.args.pos + 8 * q) c.slot_away.ensures.slot) in
    subst (λ (q : Meaning). AllRead q p 8) (sym same) (range_part m c.args.pos (8 * c.args.len) p 8 i.0 i.1 c.requires.reads)
