-- Every worked sample.
use Rattle.std.proofs.Common.{refl, arith}
use Rattle.std.proofs.lemmas.Fmt.{decimal_digit}
use Rattle.lookup_nth.specs.Nths.{TwoDataOfOneKey}
use Rattle.samples.proofs.Worked as format
use Rattle.text.proofs.Sampled as text
use Rattle.worked_samples.specs.Worked.{WorkedSamples}

two_data : TwoDataOfOneKey
two_data = (refl, refl, refl, refl)

pub worked_samples : WorkedSamples
worked_samples = record { files = format.samples; texts = text.samples; data' = two_data; printed = rw (decimal_digit 2 (omega arith), decimal_digit 4 (omega arith), decimal_digit 3 (omega arith)) refl }
