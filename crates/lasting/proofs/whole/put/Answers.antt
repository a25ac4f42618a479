use Rattle.std.proofs.Common.{◌++◌, drop}
use Rattle.lasting.specs.Array.{long}
use Rattle.lasting.specs.Whole.{whole}
use Rattle.lasting.proofs.Both.{put_into, same_behind}
use Rattle.lasting.proofs.whole.put.Goals as goal

pub returns : goal.returns
unfolding whole
returns c =
    let b = c.args.bytes.now in
    let l = long b in
    let w = c.put.new.image in
    let new = w ++ drop c.size-size.result b in
    record {
      answer = cc;
      images = put_into b new w c.args.at c.args.byte (cc) (cc);
      behind = same_behind b new w c.args.at c.args.byte (cc) (cc);
    }
