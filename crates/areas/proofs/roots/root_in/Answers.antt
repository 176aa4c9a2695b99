use Rattle.areas.proofs.Named.{no_area, root_if}
use Rattle.areas.proofs.roots.root_in.Goals as goal

pub returns-in_default : goal.returns-in_default
returns-in_default c = no_area c.args.bytes.now c.args.sectors c.requires c.word_at.result c.word_at.ensures c.in_default.ensures.1

pub returns : goal.returns
returns c =
    let yes = c.is_lawful.result in
    simp c.then_some.ensures (root_if c.args.bytes.now c.args.sectors c.requires c.in-Ok.area c.word_at.result c.word_at-2.result c.word_at.ensures c.in-Ok.ensures c.word_at-2.ensures yes c.is_lawful.ensures)
