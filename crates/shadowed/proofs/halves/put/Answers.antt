use Rattle.shadowed.specs.Array.{long}
use Rattle.shadowed.specs.Halves.{halves}
use Rattle.shadowed.proofs.Laid.{put_into}
use Rattle.shadowed.proofs.halves.put.Goals as goal

pub returns : goal.returns
unfolding halves
returns c =
    let b = c.args.bytes.now in
    let l = (long b).0 in
    record { answer = cc; left = put_into b _ c.put.new.image c.args.at c.args.byte (cc) (cc) }
