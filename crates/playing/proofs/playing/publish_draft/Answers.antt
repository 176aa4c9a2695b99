use Rattle.history.specs.Histories.{draft_published, publish_refused}
use Rattle.playing.proofs.playing.publish_draft.Goals as goal

pub returns-in-Ok : goal.returns-in-Ok
returns-in-Ok g c = record { moves = λ es. rw c.done.ensures (draft_published c.in-Ok.ensures.publishes) }

pub returns-in-Err : goal.returns-in-Err
returns-in-Err g c = record { moves = λ es. rw (c.refused.ensures, c.from.ensures) (publish_refused _ c.in-Err.ensures.publishes) }
