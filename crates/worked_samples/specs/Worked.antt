-- Every worked sample, as one fact that follows from the definitions.
use Rattle.std.specs.Prelude.{◌≡◌, codes, Ok}
use Rattle.answering.specs.Answers.{line_of}
use Rattle.lookup_nth.specs.Nths.{TwoDataOfOneKey}
use Rattle.samples.specs.Samples as format
use Rattle.text.specs.Samples as text

pub record WorkedSamples : Type 0 where
  -- hashes, and the verdicts on seven files
  pub files : format.Samples
  -- texts, and where what is no text is refused
  pub texts : text.Samples
  -- the data of two records of one key, and none after them
  pub data' : TwoDataOfOneKey
  -- the line that tells of the file of these two records
  pub printed : line_of (Ok (record { records = 2; slots = 4; probes = 3 })) ≡ codes "ok,2,4,3\n"
