use Rattle.samples.proofs.Worked.{samples}
use Rattle.samples.proofs.samples.know_samples.Goals as goal

pub returns : goal.returns
returns c = samples
