use Rattle.std.proofs.Common.{◌≡◌, ℕ, ◌+◌, ◌*◌, ◌<◌}
use Rattle.byte_lists.specs.Bytes.{word_at}
use Rattle.cdb.specs.Tables.{slot_away}
use Rattle.building.proofs.placing.find_empty.Given as goal

abbrev pub invariant-loop-distance : goal.invariant-loop-distance
invariant-loop-distance g l =
    (g.D.Device.meaning l.d ≡ g.D.Device.meaning l.initial.d)
    × ((i : ℕ) → i < l.distance → 0 < word_at (g.D.Device.meaning l.initial.d).bytes (l.pos + 8 * slot_away l.len l.hash i + 4))
