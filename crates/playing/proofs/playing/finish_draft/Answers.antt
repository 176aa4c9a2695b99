use Rattle.history.specs.Histories.{finished, finish_refused}
use Rattle.playing.proofs.playing.finish_draft.Goals as goal

pub returns-in-Ok : goal.returns-in-Ok
returns-in-Ok g c = record { moves = rw c.done.ensures (finished c.in-Ok.ensures.finishes) }

pub returns-in-Err : goal.returns-in-Err
returns-in-Err g c = record { moves = rw c.refused.ensures (finish_refused _ c.in-Err.ensures.finishes) }
