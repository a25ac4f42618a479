-- The law of the received pair: a message's sum is the pair received behind it exactly if the register over both is 0.
use Rattle.std.proofs.Common.{◌≡◌, ℕ, ◌*◌, ◌/◌, ◌%◌, ◌<◌, ◌↔◌, List, ◌++◌, sym, ap, ◌∙◌, arith}
use mathlib.Core.Bool.{xor}
use lib.Bits.{bit_xor, xor_self, xor_zero_r}
use Rattle.crc.specs.Sum.{step, after_bits, bits, message_bits, after_message, sum_of, start}
use Rattle.crc.specs.Table.{multiple}
use Rattle.crc.specs.Transfer.{pair}
use Rattle.crc.proofs.Runs.{after_append, after_one_to_one, after_message_append, after_message_lt}
use Rattle.crc.proofs.Half.{half_byte, whole_byte}

-- fed its own top four bits, the register only moves up
own_half : (r n : ℕ) → r < 0x10000 → n ≡ r / 0x1000 → after_bits r (bits 4 n) ≡ r * 16 % 0x10000
unfolding step xor
own_half r n hr e =
    half_byte r n hr (omega arith)
    ∙ ap (λ i. bit_xor (r * 16 % 0x10000) (multiple i)) (ap (bit_xor (r / 0x1000)) e ∙ xor_self (r / 0x1000))
    ∙ xor_zero_r (r * 16 % 0x10000)

own_byte : (r b : ℕ) → r < 0x10000 → b ≡ r / 256 → after_bits r (bits 8 b) ≡ r * 256 % 0x10000
own_byte r b hr e =
    whole_byte r b
    ∙ ap (λ n. after_bits n (bits 4 (b % 16))) (own_half r (b / 16) hr (omega arith))
    ∙ own_half (r * 16 % 0x10000) (b % 16) (omega arith) (omega arith)
    ∙ (let z : r * 16 % 0x10000 * 16 % 0x10000 ≡ r * 256 % 0x10000 = omega arith in z)

-- fed itself, the register ends at 0
own_pair : (r : ℕ) → r < 0x10000 → after_message r (pair r) ≡ 0
unfolding after_message
own_pair r h =
    after_append r (bits 8 (r / 256 % 256)) (bits 8 (r / 1 % 256))
    ∙ ap (λ n. after_bits n (bits 8 (r / 1 % 256))) (own_byte r (r / 256 % 256) h (omega arith))
    ∙ own_byte (r * 256 % 0x10000) (r / 1 % 256) (omega arith) (omega arith)
    ∙ (let z : r * 256 % 0x10000 * 256 % 0x10000 ≡ 0 = omega arith in z)

pub received_pair : (covered : List ℕ) (received : ℕ) → received < 0x10000
    → (sum_of covered ≡ received) ↔ (after_message start (covered ++ pair received) ≡ 0)
unfolding after_message
received_pair covered received h = (
  (λ e. after_message_append start covered (pair received)
      ∙ ap (λ r. after_message r (pair received)) e ∙ own_pair received h),
  (λ z. after_one_to_one (sum_of covered) received (message_bits (pair received))
      (after_message_lt start covered (omega arith)) h
      (sym (after_message_append start covered (pair received)) ∙ z ∙ sym (own_pair received h))),
)
