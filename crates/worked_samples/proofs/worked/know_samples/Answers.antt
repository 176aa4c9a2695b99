use Rattle.worked_samples.proofs.Samples.{worked_samples}
use Rattle.worked_samples.proofs.worked.know_samples.Goals as goal

pub returns : goal.returns
returns c = worked_samples
