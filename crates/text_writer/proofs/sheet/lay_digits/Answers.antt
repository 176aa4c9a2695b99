use Rattle.std.proofs.Common.{◌≡◌, ◌+◌, length, decimal, subst, arith}
use Rattle.text_writer.proofs.Digits.{Written, begun, one_digit, ended, narrower, single_width, rest_fits}
use Rattle.text_writer.proofs.sheet.lay_digits.Goals as goal

pub loop-rest-init : goal.loop-rest-init
loop-rest-init c =
    let e : c.args.at + length (decimal c.args.number) ≡ c.args.at + c.width.result = omega arith in (
      subst (Written c.args.buffer.now c.args.buffer.now c.args.at c.args.number c.args.number) e
          (begun c.args.buffer.now c.args.at c.args.number c.requires),
      omega arith,
    )

pub overflow_sub-place : goal.overflow_sub-place
overflow_sub-place c = omega (arith, c.loop-rest.invariant.0.counted, narrower c.loop-rest.rest (omega arith) (omega (arith, c.loop-rest.invariant.1)))

pub bounds-buffer-place : goal.bounds-buffer-place
bounds-buffer-place c =
    omega (arith, c.loop-rest.invariant.0.counted, rest_fits _ _ _ _ _ _ c.loop-rest.invariant.0, narrower c.loop-rest.rest (omega arith) (omega (arith, c.loop-rest.invariant.1)))

pub loop-rest-preserved : goal.loop-rest-preserved
loop-rest-preserved c = (
  one_digit c.args.buffer.now c.loop-rest.buffer c.args.at c.args.number c.loop-rest.rest c.loop-rest.place c.requires c.loop-rest.invariant.1 c.loop-rest-test.true c.loop-rest.invariant.0,
  omega (arith, c.loop-rest.invariant.1),
)

pub bounds-buffer-at : goal.bounds-buffer-at
bounds-buffer-at c =
    omega (arith, c.loop-rest.invariant.0.counted, rest_fits _ _ _ _ _ _ c.loop-rest.invariant.0, single_width c.loop-rest.rest (omega arith))

pub returns : goal.returns
returns c =
    record {
      place = omega arith;
      after = ended c.args.buffer.now c.loop-rest.buffer c.args.at c.args.number c.loop-rest.rest c.loop-rest.place c.requires (omega arith) c.loop-rest.invariant.0;
    }
