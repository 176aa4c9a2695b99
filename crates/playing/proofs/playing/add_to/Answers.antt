use Rattle.history.specs.Histories.{record_added, add_refused}
use Rattle.playing.proofs.playing.add_to.Goals as goal

pub returns-in-Ok : goal.returns-in-Ok
returns-in-Ok g c = record { moves = rw c.done.ensures (record_added c.in-Ok.ensures.adds) }

pub returns-in-Err : goal.returns-in-Err
returns-in-Err g c = record { moves = rw c.refused.ensures (add_refused _ c.in-Err.ensures.adds) }
