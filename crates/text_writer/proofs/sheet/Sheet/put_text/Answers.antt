use Rattle.std.proofs.Common.{rules}
use Rattle.text_writer.proofs.Back.{blank, proper_at, line_fits, one_line_more, end_fits, all_written}
use Rattle.text_writer.proofs.sheet.Sheet.put_text.Goals as goal

pub put_line-requires : goal.put_line-requires
put_line-requires c =
    let h = proper_at c.args.records.now c.loop-one.one-index blank c.loop-one-test.true c.requires.proper in
    record { words = (h.2, h.3); fits = line_fits _ _ _ _ c.requires.fits c.loop-one.invariant c.loop-one-test.true }

pub loop-one-preserved : goal.loop-one-preserved
loop-one-preserved c = one_line_more c.args.records.now c.loop-one.one-index _ _ c.requires.fits c.loop-one.invariant _ c.loop-one-test.true c.put_line.ensures

pub put-requires : goal.put-requires
put-requires c = end_fits c.args.records.now c.loop-one.one-index _ _ c.requires.fits c.loop-one.invariant c.loop-one-test.false

pub returns : goal.returns
returns c = all_written c.args.records.now c.loop-one.one-index _ _ c.requires.fits c.loop-one.invariant _ _ (search rules) c.loop-one-test.false c.put.ensures
