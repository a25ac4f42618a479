use Rattle.reached.proofs.Reached.{reached}
use Rattle.reached.proofs.everything_is_reached.Goals as goal

pub returns : goal.returns
returns c = reached
