-- the pairs so far have no fault, and the floor is where the next record may start
use Rattle.std.proofs.Common.{◌≡◌}
use Rattle.runfile.specs.Table.{earliest}
use Rattle.runfile.proofs.Opening.{UpTo}
use Rattle.runfile.proofs.reader.Reader.open.Given as goal

abbrev pub invariant-loop-number : goal.invariant-loop-number
invariant-loop-number l = (l.floor ≡ earliest l.fn.file l.number) × UpTo l.fn.file l.number
