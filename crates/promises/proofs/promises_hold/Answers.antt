use Rattle.promises.proofs.Whole.{promises-hold}
use Rattle.promises.proofs.promises_hold.Goals as goal

pub returns : goal.returns
returns c = promises-hold
