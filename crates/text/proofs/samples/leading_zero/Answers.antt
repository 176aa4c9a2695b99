use Rattle.std.proofs.Common.{rules}
use Rattle.text.proofs.Sampled.{samples, zero_refused}
use Rattle.text.proofs.samples.leading_zero.Goals as goal

pub returns : goal.returns
returns c = record { refused = zero_refused _ c.tally.result (search rules) c.tally.ensures; samples = samples }
