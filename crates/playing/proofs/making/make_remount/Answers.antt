use Rattle.playing.specs.Steps.{remounted}
use Rattle.playing.proofs.making.make_remount.Goals as goal

pub returns : goal.returns
returns g c = record { made = λ o es. rw c.new.ensures (remounted c.remount-turned.ensures) }
