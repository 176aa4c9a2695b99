use Rattle.std.proofs.Common.{true, List, ℕ, sym, subst}
use Rattle.device.specs.Meanings.{endless}
use Rattle.memory.specs.Memories.{memory}
use Rattle.lookup_runs.specs.Runs.{Keeps}
use Rattle.lookup_changing.proofs.Keeping.{keeps_flipped}
use Rattle.lookup_changing.proofs.flipping.FlippingMemoryChanging.change.Goals as goal

pub returns : goal.returns
returns c =
    let e = c.args.extent in
    let xs : List ℕ = c.args.self.now.bytes.now in
    record { keeps = subst (λ (ys : List ℕ). Keeps e (memory xs true endless) (memory ys true endless)) (sym c.flip.ensures.bytes) (keeps_flipped xs e) }
