use Rattle.std.proofs.Common.{◌∙◌}
use Rattle.memory.proofs.Stores.{torn_from}
use Rattle.memory.proofs.writing.WriteMemory.tear.Goals as goal

pub invariant_of-self : goal.invariant_of-self
invariant_of-self c =
    let a = torn_from _ _ _ _ _ _ _ _ c.args.self.now.whole c.requires.free c.know_bytes.ensures c.stored_of-n.ensures c.lay_over.ensures in
    record { count = c.args.self.now.count ∙ a.sectors; whole = a.whole }

pub returns-clause-meaning : goal.returns-clause-meaning
returns-clause-meaning c =
    (torn_from _ _ _ _ _ _ _ _ c.args.self.now.whole c.requires.free c.know_bytes.ensures c.stored_of-n.ensures c.lay_over.ensures).meaning

pub returns-clause-cut : goal.returns-clause-cut
returns-clause-cut c =
    (torn_from _ _ _ _ _ _ _ _ c.args.self.now.whole c.requires.free c.know_bytes.ensures c.stored_of-n.ensures c.lay_over.ensures).cut

pub returns-clause-tail : goal.returns-clause-tail
returns-clause-tail c =
    (torn_from _ _ _ _ _ _ _ _ c.args.self.now.whole c.requires.free c.know_bytes.ensures c.stored_of-n.ensures c.lay_over.ensures).tail
