use Rattle.selection.proofs.Items.{lent}
use Rattle.selection.proofs.held.Held.as_slice.Goals as goal

pub returns : goal.returns
returns c = lent c.args.self.now.count c.len.result c.args.self.now.bytes c.len.ensures.count
