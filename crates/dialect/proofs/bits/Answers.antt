use Rattle.std.proofs.Common.{◌≡◌, ◌*◌, ◌/◌, ◌%◌, ◌^◌, arith}
use Rattle.std.proofs.lemmas.Nat.{pow_below}
use lib.Bits.{and_mask}
use Rattle.dialect.proofs.bits.Goals as goal

pub returns : goal.returns
returns c =
    let n = c.args.count in
    let fits : 1 * 2 ^ n % 256 ≡ 2 ^ n = omega (arith, pow_below n 8 c.requires.count) in
    rw fits (and_mask (c.args.byte / 2 ^ c.args.place) n)
