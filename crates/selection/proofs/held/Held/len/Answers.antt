use Rattle.std.proofs.Common.{◌≡◌, length, arith}
use Rattle.selection.proofs.Items.{all_held}
use Rattle.selection.proofs.held.Held.len.Goals as goal

pub returns-else-self-lt-ROOM : goal.returns-else-self-lt-ROOM
returns-else-self-lt-ROOM c =
    let l : length c.args.self.now.bytes ≡ 69 = omega arith in
    record { count = all_held c.args.self.now.count c.args.self.now.bytes l c.if-self-lt-ROOM.false; bound = omega arith }
