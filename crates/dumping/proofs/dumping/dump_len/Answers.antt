use Rattle.std.proofs.Common.{◌^◌, ◌<◌, Ok, arith, rules}
use Rattle.text.specs.Texts.{text}
use Rattle.dumping.specs.Dumps.{Measures}
use Rattle.dumping.proofs.Dumped.{accepts, text_is, only_measure}
use Rattle.dumping.proofs.dumping.dump_len.Goals as goal

pub returns-in_err-counts-clause-only : goal.returns-in_err-counts-clause-only
returns-in_err-counts-clause-only c =
    let a : Measures c.args.memory.now c.args.len c.from_residual.result = search rules in
    only_measure c.args.memory.now c.args.len c.from_residual.result a

pub measure-requires : goal.measure-requires
measure-requires c =
    let small : c.args.len < 2 ^ 32 = omega arith in
    let a = accepts c.args.memory.now c.args.len c.in_ok-counts.counts c.know_bytes.ensures small c.in_ok-counts.ensures in
    (a.rs, a.standing, a.count)

pub returns : goal.returns
returns c =
    let small : c.args.len < 2 ^ 32 = omega arith in
    let a = accepts c.args.memory.now c.args.len c.in_ok-counts.counts c.know_bytes.ensures small c.in_ok-counts.ensures in
    let m = c.measure.ensures in
    let answer : Measures c.args.memory.now c.args.len (Ok c.measure.result) = (text m.0, text_is c.args.memory.now c.args.len c.in_ok-counts.counts.records a m.0 m.1, m.2) in
    record { answer = answer; only = only_measure c.args.memory.now c.args.len (Ok c.measure.result) answer }
