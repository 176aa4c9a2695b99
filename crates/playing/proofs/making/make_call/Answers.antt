use Rattle.playing.specs.Steps.{called}
use Rattle.playing.proofs.making.make_call.Goals as goal

pub returns : goal.returns
returns g c = record { made = λ o. rw c.new.ensures (called c.play-played.ensures.moves) }
