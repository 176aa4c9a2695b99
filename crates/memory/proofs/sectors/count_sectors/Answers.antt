use Rattle.std.proofs.Common.{true, refl, rules}
use Rattle.device.specs.Meanings.{endless}
use Rattle.memory.proofs.Whole.{memory_whole}
use Rattle.memory.proofs.sectors.count_sectors.Goals as goal

pub returns : goal.returns
returns c =
    record { count = search rules; whole = memory_whole c.args.bytes.now true endless c.know_bytes.ensures (λ _. refl) }
