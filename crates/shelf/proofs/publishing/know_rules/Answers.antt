use Rattle.shelf.proofs.Ruled.{publish_after_adds_breaks_no_rule}
use Rattle.shelf.proofs.publishing.know_rules.Goals as goal

pub returns : goal.returns
returns c = publish_after_adds_breaks_no_rule
