use Rattle.std.proofs.Common.{rules}
use Rattle.records.proofs.Proved.{any, in_order, judged}
use Rattle.records.proofs.reader.RecordReader.new.Goals as goal

pub returns : goal.returns
returns c = record { stands = search rules; any = any c.args.file.now; lawful = in_order c.args.file.now; judged = judged c.args.file.now }
