use Rattle.std.proofs.Common.{◌/◌, arith}
use Rattle.std.proofs.lemmas.Fmt.{decimal_nonempty, length-decimal-le}
use Rattle.text_writer.proofs.Digits.{narrower, single_width}
use Rattle.text_writer.proofs.sheet.width.Goals as goal

pub loop-rest-preserved : goal.loop-rest-preserved
loop-rest-preserved c =
    let i = c.loop-rest.invariant in
    let few = length-decimal-le 20 c.args.number (omega arith) (omega arith) (omega arith) in
    let some = decimal_nonempty (c.loop-rest.rest / 10) (omega arith) in
    let n = narrower c.loop-rest.rest (omega arith) (omega arith) in
    (omega arith, omega arith, omega arith)

pub returns : goal.returns
returns c =
    let i = c.loop-rest.invariant in
    let one = single_width c.loop-rest.rest (omega arith) in
    record {
      is = omega arith;
      small = omega arith;
      word = λ l. omega (arith, length-decimal-le 10 c.args.number (omega arith) (omega arith) (omega arith));
    }
