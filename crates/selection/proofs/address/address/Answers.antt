use Rattle.std.proofs.Common.{◌∙◌}
use Rattle.selection.proofs.Number.{number_push}
use Rattle.selection.proofs.address.address.Goals as goal

pub returns : goal.returns
returns c = c.one_more.ensures ∙ number_push c.args.size c.args.last c.modulo.result c.args.bytes.now c.modulo.ensures
