use Rattle.status.proofs.Bits.{apart}
use Rattle.status.proofs.bits_never_collide.Goals as goal

pub returns : goal.returns
returns c = apart
