use Rattle.std.proofs.Common.{true, rules}
use Rattle.device.specs.Meanings.{Meaning, endless}
use Rattle.memory.specs.Memories.{memory}
use Rattle.lookup_nth.specs.Nths.{Nth, NthGivesRecord}
use Rattle.c_calls.proofs.Fitting.{extent_is, finds, gives}
use Rattle.c_calls.proofs.in_memory.find_in_memory.Goals as goal

pub returns : goal.returns
returns c =
    let x = extent_is c.new.result c.in_ok-extent.extent c.args.len c.in_ok-extent.was c.new.ensures in
    let device : Meaning = memory c.new-device.result.bytes.now true endless in
    let found : Nth device c.in_ok-extent.extent c.args.key.now c.args.n c.nth.result = search rules in
    let given : NthGivesRecord device c.in_ok-extent.extent c.args.key.now c.args.n c.nth.result = search rules in
    record {
      answer = finds c.args.memory.now device c.new-device.ensures c.in_ok-extent.extent c.args.len x.0 x.1 c.args.key.now c.args.n c.nth.result found;
      law = gives c.args.memory.now device c.new-device.ensures c.in_ok-extent.extent c.args.len x.0 x.1 c.args.key.now c.args.n c.nth.result given;
    }
