use Rattle.std.proofs.Common.{ℕ, sym, ◌∙◌, subst, arith}
use Rattle.text.specs.Readings.{lent}
use Rattle.dumping.proofs.Walked.{Measured, Takes, unmeasured, measured_ahead, measured_more, measured_bound, all_measured}
use Rattle.dumping.proofs.measuring.measure.Goals as goal

pub loop-init : goal.loop-init
loop-init c =
    let s = c.new-reader.ensures.stands in
    let m = unmeasured c.args.file.now c.args.records c.requires.0 c.requires.1 c.requires.2 in
    (s.0, subst (λ (p : ℕ). Measured c.args.file.now c.args.records 0 p 1) (sym s.1) m)

pub take-requires : goal.take-requires
take-requires c =
    let i = c.loop.invariant in
    measured_ahead c.args.file.now c.args.records c.loop.counter c.loop.reader.place c.loop.len i.1 c.loop-test.true c.loop.reader.file.now i.0

pub overflow_add-len : goal.overflow_add-len
overflow_add-len c =
    let i = c.loop.invariant in
    let t : Takes c.loop.reader.file.now c.loop.reader.place (lent c.take.result) c.take.new.reader.place = c.take.ensures.first in
    let m = measured_more c.args.file.now c.args.records c.loop.counter c.loop.reader.place c.loop.len i.1 c.loop-test.true c.loop.reader.file.now i.0 (lent c.take.result) c.take.new.reader.place t in
    let b = measured_bound c.args.file.now c.args.records _ c.take.new.reader.place _ m in
    omega (arith, c.line_len-len.ensures, b)

pub loop-preserved : goal.loop-preserved
loop-preserved c =
    let i = c.loop.invariant in
    let t : Takes c.loop.reader.file.now c.loop.reader.place (lent c.take.result) c.take.new.reader.place = c.take.ensures.first in
    let m = measured_more c.args.file.now c.args.records c.loop.counter c.loop.reader.place c.loop.len i.1 c.loop-test.true c.loop.reader.file.now i.0 (lent c.take.result) c.take.new.reader.place t in (
      c.take.ensures.same ∙ i.0,
      rw c.line_len-len.ensures m,
    )

pub returns : goal.returns
returns c = all_measured c.args.file.now c.args.records c.loop.counter c.loop.reader.place c.loop.len c.loop.invariant.1 c.loop-test.false
