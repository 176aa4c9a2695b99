use Rattle.std.proofs.Common.{true, rules}
use Rattle.device.specs.Meanings.{Meaning, endless}
use Rattle.memory.specs.Memories.{memory}
use Rattle.auditing.specs.Audits.{Audited}
use Rattle.c_calls.proofs.Fitting.{extent_is, audits}
use Rattle.c_calls.proofs.in_memory.audit_in_memory.Goals as goal

pub returns : goal.returns
returns c =
    let x = extent_is c.new.result c.in_ok-extent.extent c.args.len c.in_ok-extent.was c.new.ensures in
    let device : Meaning = memory c.new-device.result.bytes.now true endless in
    let audited : Audited device c.in_ok-extent.extent c.audit.result = search rules in
    audits c.args.memory.now device c.new-device.ensures c.in_ok-extent.extent c.args.len x.0 x.1 c.audit.result audited
