use Rattle.lasting.specs.Array.{long}
use Rattle.lasting.specs.Whole.{whole}
use Rattle.lasting.proofs.whole.get.Goals as goal

pub returns : goal.returns
unfolding whole
returns c = let l = long c.args.bytes.now in cc
