use Rattle.areas.proofs.Rooted.{root_laid}
use Rattle.areas.proofs.roots.root_bytes.Goals as goal

pub returns : goal.returns
returns c = root_laid c.lay_over.new.to c.two_words.result c.args.root.area c.into.result c.args.root.len c.into.ensures c.two_words.ensures c.lay_over.ensures
