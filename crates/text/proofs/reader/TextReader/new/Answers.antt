use Rattle.std.proofs.Common.{rules}
use Rattle.text.proofs.Proved.{reads_in_order, ends_with_its_records, refuses_the_whole, one_answer}
use Rattle.text.proofs.reader.TextReader.new.Goals as goal

pub returns : goal.returns
returns c =
    record {
      stands = search rules;
      order = reads_in_order c.args.text.now;
      ends = ends_with_its_records c.args.text.now;
      refuses = refuses_the_whole c.args.text.now;
      one = one_answer c.args.text.now;
    }
