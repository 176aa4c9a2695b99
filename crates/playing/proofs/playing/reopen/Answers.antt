use Rattle.history.specs.Histories.{opened, open_refused}
use Rattle.playing.proofs.playing.reopen.Goals as goal

pub returns-in-Ok : goal.returns-in-Ok
returns-in-Ok g c = record { moves = λ es. rw (c.done.ensures, c.open.ensures.same) (opened c.in-Ok.ensures.opens) }

pub returns-in-Err : goal.returns-in-Err
returns-in-Err g c = record { moves = λ es. rw (c.refused.ensures, c.open.ensures.same) (open_refused c.in-Err.ensures.opens) }
