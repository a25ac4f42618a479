use Rattle.status.proofs.Bits.{masked_twice}
use Rattle.status.proofs.update.Goals as goal

pub returns-clause-within : goal.returns-clause-within
returns-clause-within g c = cc (masked_twice c.args.byte g.D.Dialect.facts.mask)
