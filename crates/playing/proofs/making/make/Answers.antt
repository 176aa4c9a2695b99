use Rattle.playing.specs.Steps.{scribbled}
use Rattle.playing.proofs.making.make.Goals as goal

pub returns-in-Scribble : goal.returns-in-Scribble
returns-in-Scribble g c = record { made = rw (c.in-Scribble.is, c.scribble.ensures.scribbled) scribbled }
