use Rattle.std.proofs.Common.{◌∙◌}
use Rattle.memory.specs.Writing.{writes}
use Rattle.memory.proofs.Stores.{laid_over}
use Rattle.memory.proofs.writing.WriteMemory.store.Goals as goal

pub invariant_of-self : goal.invariant_of-self
invariant_of-self c =
    let a = laid_over _ _ _ _ _ _ _ c.args.self.now.whole c.requires.free c.know_bytes.ensures c.lay_over.ensures in
    record { count = c.args.self.now.count ∙ a.sectors; whole = a.whole }

pub returns-clause-meaning : goal.returns-clause-meaning
returns-clause-meaning c =
    (laid_over _ _ _ _ _ _ _ c.args.self.now.whole c.requires.free c.know_bytes.ensures c.lay_over.ensures).meaning

pub returns-clause-tail : goal.returns-clause-tail
returns-clause-tail c =
    (laid_over _ _ _ _ _ _ (writes c.args.left) c.args.self.now.whole c.requires.free c.know_bytes.ensures c.lay_over.ensures).tail
