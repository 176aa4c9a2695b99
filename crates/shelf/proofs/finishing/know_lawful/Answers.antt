use Rattle.shelf.proofs.Held.{finish_after_adds_is_lawful}
use Rattle.shelf.proofs.finishing.know_lawful.Goals as goal

pub returns : goal.returns
returns c = finish_after_adds_is_lawful
