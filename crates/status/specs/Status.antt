-- The status byte that a part drives, and the status bits R that a status write leaves.
use Rattle.std.specs.Prelude.{◌≡◌, ℕ, ◌+◌, Bool, cond, bit_and}
use Rattle.dialect.specs.Facts.{Facts, Lawful, Within}

-- R, plus the fail bit if the fail mark is set, plus 2 if the latch is set, plus 1 unless the part is idle.
abbrev pub status_byte : Facts → ℕ → Bool → Bool → Bool → ℕ
status_byte f R fail-mark latch idle = R + cond fail-mark f.fail_bit 0 + cond latch 2 0 + cond idle 0 1

-- The bits of a byte that a status write makes R.
abbrev pub mask_bits : Facts → ℕ → ℕ
mask_bits f byte = bit_and byte f.mask

-- The status bits, the fail bit, and the two low bits, which show latch and activity, have no bit in common.
pub record Apart (R fail : ℕ) : Type 0 where
  pub status_bits_and_fail_bit : bit_and R fail ≡ 0
  pub status_bits_and_low_bits : bit_and R 3 ≡ 0
  pub fail_bit_and_low_bits : bit_and fail 3 ≡ 0

abbrev pub BitsNeverCollide : Type 0
BitsNeverCollide = (f : Facts) → Lawful f → (R : ℕ) → Within f R → Apart R f.fail_bit
