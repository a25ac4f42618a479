use Rattle.shadowed.specs.Halves.{halves}
use Rattle.shadowed.proofs.Laid.{recalled}
use Rattle.shadowed.proofs.halves.recall.Goals as goal

pub returns-clause-left : goal.returns-clause-left
unfolding halves
returns-clause-left c = recalled c.args.bytes.now _ c.args.page (cc)
