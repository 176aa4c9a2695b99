use Rattle.playing.proofs.Getting.{gets_give_published}
use Rattle.playing.proofs.laws.know_gets.Goals as goal

pub returns : goal.returns
returns c = record { gets = gets_give_published }
