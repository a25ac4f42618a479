use Rattle.shadowed.specs.Array.{long}
use Rattle.shadowed.specs.Halves.{halves}
use Rattle.shadowed.proofs.halves.get.Goals as goal

pub returns : goal.returns
unfolding halves
returns c = let l = (long c.args.bytes.now).0 in cc
