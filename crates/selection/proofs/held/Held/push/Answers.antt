use Rattle.std.proofs.Common.{◌≡◌, length, arith}
use Rattle.selection.proofs.Items.{pushed, no_room}
use Rattle.selection.proofs.held.Held.push.Goals as goal

pub returns-then-self-lt-ROOM : goal.returns-then-self-lt-ROOM
returns-then-self-lt-ROOM c =
    let l : length c.args.self.now.bytes ≡ 69 = omega arith in
    pushed c.args.self.now.count c.args.byte c.args.self.now.bytes l c.if-self-lt-ROOM.true

pub returns-else-self-lt-ROOM : goal.returns-else-self-lt-ROOM
returns-else-self-lt-ROOM c =
    let l : length c.args.self.now.bytes ≡ 69 = omega arith in
    no_room c.args.self.now.count c.args.byte c.args.self.now.bytes l c.if-self-lt-ROOM.false
