use Rattle.std.proofs.Common.{arith}
use Rattle.crc.proofs.Half.{whole_byte}
use Rattle.crc.proofs.after_byte.Goals as goal

pub returns : goal.returns
returns c = grind (arith, whole_byte)
