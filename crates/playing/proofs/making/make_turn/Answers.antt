use Rattle.playing.specs.Steps.{turned}
use Rattle.playing.proofs.making.make_turn.Goals as goal

pub returns : goal.returns
returns g c = record { made = λ o es. rw c.new.ensures (turned c.turn-turned.ensures) }
