use Rattle.std.proofs.Common.{ℕ, sym, ◌∙◌, subst, rules}
use Rattle.text.specs.Readings.{lent}
use Rattle.dumping.proofs.Walked.{Written, Takes, unwritten, written_ahead, line_fits, written_more, end_fits, all_written}
use Rattle.dumping.proofs.laying.lay_text.Goals as goal

pub loop-init : goal.loop-init
loop-init c =
    let s = c.new-reader.ensures.stands in
    let w = unwritten c.args.file.now c.args.records c.requires.0 c.args.sheet.now c.requires.1 c.requires.2 c.requires.3 in
    (s.0, subst (λ (p : ℕ). Written c.args.file.now c.args.records 0 p c.args.sheet.now c.args.sheet.now) (sym s.1) w)

pub take-requires : goal.take-requires
take-requires c =
    let i = c.loop.invariant in
    written_ahead c.args.file.now c.args.records c.loop.counter c.loop.reader.place c.args.sheet.now c.loop.sheet i.1 c.loop-test.true c.loop.reader.file.now i.0

pub put_line-requires-clause-fits : goal.put_line-requires-clause-fits
put_line-requires-clause-fits c =
    let i = c.loop.invariant in
    let t : Takes c.loop.reader.file.now c.loop.reader.place (lent c.take.result) c.take.new.reader.place = c.take.ensures.first in
    line_fits c.args.file.now c.args.records c.loop.counter c.loop.reader.place c.args.sheet.now c.loop.sheet i.1 c.loop-test.true c.loop.reader.file.now i.0 (lent c.take.result)
    c.take.new.reader.place t

pub loop-preserved : goal.loop-preserved
loop-preserved c =
    let i = c.loop.invariant in
    let t : Takes c.loop.reader.file.now c.loop.reader.place (lent c.take.result) c.take.new.reader.place = c.take.ensures.first in (
      c.take.ensures.same ∙ i.0,
      written_more c.args.file.now c.args.records c.loop.counter c.loop.reader.place c.args.sheet.now c.loop.sheet i.1 c.loop-test.true c.loop.reader.file.now i.0 (lent c.take.result)
          c.take.new.reader.place t c.put_line.new.self c.put_line.ensures,
    )

pub put-requires : goal.put-requires
put-requires c = end_fits c.args.file.now c.args.records c.loop.counter c.loop.reader.place c.args.sheet.now c.loop.sheet c.loop.invariant.1

pub returns : goal.returns
returns c =
    let w = all_written c.args.file.now c.args.records c.loop.counter c.loop.reader.place c.args.sheet.now c.loop.sheet c.loop.invariant.1 c.loop-test.false _ (search rules)
    c.put.new.self c.put.ensures in
    w
