use Rattle.std.proofs.Common.{arith}
use Rattle.std.proofs.lemmas.List.{get_or_default}
use Rattle.benchlines.proofs.Driven.{driven_more, driven_long, added_on}
use Rattle.benchlines.proofs.add_all_driven.Goals as goal

pub loop-at_byte-preserved : goal.loop-at_byte-preserved
loop-at_byte-preserved c =
    let driven = c.args.driven.now in
    let i = c.loop-at_byte.at_byte-index in
    let is = get_or_default driven i _ _ c.loop-at_byte-test.true in record {
      added = rw (driven_more driven i _ c.loop-at_byte-test.true is) (added_on c.loop-at_byte.invariant.added c.add_driven.ensures);
      len = omega (arith, driven_long);
    }
