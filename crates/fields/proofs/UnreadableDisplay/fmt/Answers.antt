use Rattle.std.proofs.Common.{rules}
use Rattle.fields.specs.Reasons.{reason}
use Rattle.fields.proofs.UnreadableDisplay.fmt.Goals as goal
use Rattle.fields.proofs.UnreadableDisplay.fmt.Goals.{in-Empty, in-Size, in-AddressBytes, in-NotHexadecimal, in-HalfByte, in-TooShort, in-TooLong}

pub returns-clause-writes : goal.returns-clause-writes
unfolding reason
returns-clause-writes g c = elim c.match-self.branch [
  | in-Empty w ↦ search rules
  | in-Size w ↦ search rules
  | in-AddressBytes w ↦ search rules
  | in-NotHexadecimal w ↦ search rules
  | in-HalfByte w ↦ search rules
  | in-TooShort w ↦ search rules
  | in-TooLong w ↦ search rules
]
