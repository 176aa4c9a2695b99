use Rattle.std.proofs.Common.{rules}
use Rattle.text.specs.Readings.{lent}
use Rattle.text_writer.proofs.Laying.{line_added}
use Rattle.text_writer.proofs.sheet.Sheet.put_line.Goals as goal

pub returns : goal.returns
returns c =
    line_added (lent c.args.«record») _ _ _ _ _ _ _ _ _ (search rules) c.requires.fits
    c.put.ensures c.put_number.ensures c.put_number-2.ensures c.put-2.ensures c.put-3.ensures c.put-4.ensures c.put-5.ensures
