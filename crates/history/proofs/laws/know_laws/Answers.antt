use Rattle.history.proofs.Proved.{histories_keep_published, only_publications_change_live, open_finds_the_shelf, lookups_give_published}
use Rattle.history.proofs.laws.know_laws.Goals as goal

pub returns : goal.returns
returns c = record { keep = histories_keep_published; stay = only_publications_change_live; opens = open_finds_the_shelf; lookups = lookups_give_published }
