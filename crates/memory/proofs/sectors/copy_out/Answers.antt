use Rattle.std.proofs.Common.{rules}
use Rattle.byte_lists.proofs.Parts.{part_of_front}
use Rattle.memory.proofs.sectors.copy_out.Goals as goal

pub returns : goal.returns
returns c = search (rules, part_of_front)
