use Rattle.std.proofs.Common.{◌≡◌, ℕ, ◌+◌, ◌*◌, ◌%◌, Bool, true, false, cond, not, ◌∙◌, arith}
use lib.Bits.{bit_or}
use mir.Val.{bool_byte}
use Rattle.status.specs.Status.{Apart}
use Rattle.status.proofs.Bits.{joined}
use Rattle.status.proofs.join.Goals as goal

by_low_bits : (R fail : ℕ) → Apart R fail → (latch idle : Bool) →
    bit_or (bit_or R fail) (bit_or (bool_byte latch * 2 % 256) (bool_byte (not idle))) ≡ R + fail + cond latch 2 0 + cond idle 0 1
by_low_bits R fail apart true true = joined R fail 2 apart (omega arith) ∙ omega arith
by_low_bits R fail apart true false = joined R fail 3 apart (omega arith) ∙ omega arith
by_low_bits R fail apart false true = joined R fail 0 apart (omega arith) ∙ omega arith
by_low_bits R fail apart false false = joined R fail 1 apart (omega arith) ∙ omega arith

pub returns : goal.returns
returns c = let e = by_low_bits c.args.status_bits c.args.fail c.requires c.args.latch c.args.idle in cc
