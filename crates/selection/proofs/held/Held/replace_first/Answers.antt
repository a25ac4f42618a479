use Rattle.std.proofs.Common.{◌≡◌, length, arith}
use Rattle.selection.proofs.Items.{replaced}
use Rattle.selection.proofs.held.Held.replace_first.Goals as goal

pub returns-else-count-eq0 : goal.returns-else-count-eq0
returns-else-count-eq0 c =
    let l : length c.args.self.now.bytes ≡ 69 = omega arith in
    replaced c.args.self.now.count c.len-count.result c.args.byte c.args.self.now.bytes c.rotate_left.new.self l
    c.len-count.ensures.count c.if-count-eq0.false c.rotate_left.ensures.after
