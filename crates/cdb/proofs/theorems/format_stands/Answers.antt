use Rattle.cdb.specs.Files.{position}
use Rattle.cdb.proofs.Exactly.{lawful_exactly}
use Rattle.cdb.proofs.FileLookup.{one_reading}
use Rattle.cdb.proofs.OneVerdict.{one_verdict}
use Rattle.cdb.proofs.theorems.format_stands.Goals as goal

pub returns : goal.returns
returns c =
    record {
      made = lawful_exactly;
      reading = λ f rs ss a b. one_reading f 2048 (position f 0) rs ss a.reads b.reads;
      verdict = one_verdict;
    }
