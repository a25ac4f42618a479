use Rattle.shadowed.specs.Halves.{halves, behind}
use Rattle.shadowed.proofs.Laid.{kept}
use Rattle.shadowed.proofs.halves.keep.Goals as goal

pub returns-clause-left : goal.returns-clause-left
unfolding halves behind
returns-clause-left c = kept c.args.bytes.now _ c.args.page (cc)
