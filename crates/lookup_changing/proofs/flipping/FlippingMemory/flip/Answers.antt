use Rattle.std.proofs.Common.{◌∙◌, arith}
use Rattle.lookup_changing.proofs.Keeping.{set_fitting, set_whole}
use Rattle.lookup_changing.proofs.flipping.FlippingMemory.flip.Goals as goal

pub invariant_of-self : goal.invariant_of-self
invariant_of-self c = record { count = c.args.self.now.count ∙ set_fitting _ _ _; whole = set_whole _ _ _ (omega arith) c.args.self.now.whole }
