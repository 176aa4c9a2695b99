use Rattle.std.proofs.Common.{◌^◌, ◌<◌, List, length, Ok, Err, refl, ap, arith, rules}
use Rattle.cdb.specs.Records.{Record}
use Rattle.text.specs.Texts.{text}
use Rattle.dumping.specs.declared.fault.DumpFault.TheVariants.{Short}
use Rattle.dumping.specs.Dumps.{Dumps}
use Rattle.dumping.proofs.Walked.{one_standing}
use Rattle.dumping.proofs.Dumped.{accepts, text_is, only_dump, gives_the_text, dumped}
use Rattle.dumping.proofs.dumping.dump.Goals as goal

pub returns-in_err-counts : goal.returns-in_err-counts
returns-in_err-counts c =
    let old = c.args.into.now in
    let a : Dumps c.args.memory.now c.args.len (length old) old c.from_residual.result old = search rules in
    record {
      answer = a;
      only = only_dump c.args.memory.now c.args.len (length old) old c.from_residual.result old a;
      law = gives_the_text c.args.memory.now c.args.len (length old) old c.from_residual.result old a;
    }

pub measure-requires : goal.measure-requires
measure-requires c =
    let small : c.args.len < 2 ^ 32 = omega arith in
    let a = accepts c.args.memory.now c.args.len c.in_ok-counts.counts c.know_bytes.ensures small c.in_ok-counts.ensures in
    (a.rs, a.standing, a.count)

pub returns-then-room-measure : goal.returns-then-room-measure
returns-then-room-measure c =
    let old = c.args.into.now in
    let small : c.args.len < 2 ^ 32 = omega arith in
    let a = accepts c.args.memory.now c.args.len c.in_ok-counts.counts c.know_bytes.ensures small c.in_ok-counts.ensures in
    let m = c.measure.ensures in
    let k = text_is c.args.memory.now c.args.len c.in_ok-counts.counts.records a m.0 m.1 in
    let answer : Dumps c.args.memory.now c.args.len (length old) old (Err (Short (length old))) old = ((text m.0, k, omega (arith, m.2)), refl, refl) in
    record {
      answer = answer;
      only = only_dump c.args.memory.now c.args.len (length old) old (Err (Short (length old))) old answer;
      law = gives_the_text c.args.memory.now c.args.len (length old) old (Err (Short (length old))) old answer;
    }

pub lay_text-requires : goal.lay_text-requires
lay_text-requires c =
    let small : c.args.len < 2 ^ 32 = omega arith in
    let a = accepts c.args.memory.now c.args.len c.in_ok-counts.counts c.know_bytes.ensures small c.in_ok-counts.ensures in
    let m = c.measure.ensures in
    let s = c.new-sheet.ensures.blank in
    let e = ap (λ (rs : List Record). length rs) (one_standing _ m.0 a.rs m.1 a.standing) in
    (m.0, m.1, omega (arith, a.count, e), omega (arith, s.1, ap length s.0, m.2))

pub returns : goal.returns
returns c =
    let old = c.args.into.now in
    let small : c.args.len < 2 ^ 32 = omega arith in
    let a = accepts c.args.memory.now c.args.len c.in_ok-counts.counts c.know_bytes.ensures small c.in_ok-counts.ensures in
    let m = c.measure.ensures in
    let s = c.new-sheet.ensures.blank in
    let t = c.lay_text.new.sheet in
    let w =
    dumped c.args.memory.now c.args.len c.in_ok-counts.counts.records (length old) old a c.new-sheet.result t s.1 s.0 c.lay_text.ensures refl m.0 m.1 (omega (arith, m.2)) in
    record {
      answer = (w.0, w.1, w.2, w.3, grind arith);
      only = only_dump c.args.memory.now c.args.len (length old) old (Ok t.written) _ (w.0, w.1, w.2, w.3, grind arith);
      law = gives_the_text c.args.memory.now c.args.len (length old) old (Ok t.written) _ (w.0, w.1, w.2, w.3, grind arith);
    }
