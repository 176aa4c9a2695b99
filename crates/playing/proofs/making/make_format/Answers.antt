use Rattle.playing.specs.Steps.{formatted, format_refused}
use Rattle.playing.proofs.making.make_format.Goals as goal

pub returns-in-Ok : goal.returns-in-Ok
returns-in-Ok g c = record { made = λ o es. rw c.new.ensures (formatted (g.met.D.Device.whole c.format.new.d) c.in-Ok.ensures.formats) }

pub returns-in-Err : goal.returns-in-Err
returns-in-Err g c = record { made = λ o es. rw c.new-in-Err.ensures (format_refused c.in-Err.ensures.formats) }
