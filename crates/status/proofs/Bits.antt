-- Masks, and sums of bits that do not collide.
-- Assumes nothing.
use Rattle.std.proofs.Common.{◌≡◌, ℕ, ◌+◌, ◌-◌, ◌*◌, ◌/◌, ◌%◌, ◌^◌, ◌<◌, Bool, true, false, cond, sym, refl, ap, ◌∙◌, ⊎_elim, arith}
use lib.Bits.{bit_and, bit_or, and_self, and_zero_r, and_mask, or_disjoint, or_shifted}
use Rattle.std.proofs.lemmas.Nat.{pow-add, shr_split, and_assoc}
use Rattle.dialect.specs.Facts.{Facts, Lawful, Within, OneBitAbove2}
use Rattle.status.specs.Status.{Apart}

-- masking again changes nothing
pub masked_twice : (x m : ℕ) → bit_and (bit_and x m) m ≡ bit_and x m
masked_twice x m = and_assoc m x m ∙ ap (bit_and x) (and_self m)

-- what lies within a mask misses what the mask misses
misses : (x m y : ℕ) → bit_and x m ≡ x → bit_and m y ≡ 0 → bit_and x y ≡ 0
misses x m y within missed =
    ap (λ (z : ℕ). bit_and z y) (sym within) ∙ and_assoc y x m ∙ ap (bit_and x) missed ∙ and_zero_r x

-- the value of a bit above 2 misses the two low bits
above_2 : (value : ℕ) → OneBitAbove2 value → bit_and value 3 ≡ 0
above_2 value bit =
    let (place, from-2, in-a-byte, is) = bit in
    let above : (place - 2) + 2 ≡ place = omega arith in
    and_mask value 2 ∙ omega (arith, is, ap (λ (n : ℕ). 2 ^ n) above, pow-add 2 (place - 2) 2)

pub apart : (f : Facts) → Lawful f → (R : ℕ) → Within f R → Apart R f.fail_bit
apart f laws R within =
    record {
      status_bits_and_fail_bit = misses R f.mask f.fail_bit within laws.fail_bit_is_outside_the_mask;
      status_bits_and_low_bits = misses R f.mask 3 within laws.mask_lacks_bits_1_and_0;
      fail_bit_and_low_bits =
          ⊎_elim (above_2 f.fail_bit) (ap (λ (bit : ℕ). bit_and bit 3)) laws.fail_bit_is_one_bit_above_2_or_0;
    }

-- with the fail mark clear, 0 stands for the fail bit, and collides with nothing
pub apart_if : (mark : Bool) (R fail : ℕ) → Apart R fail → Apart R (cond mark fail 0)
apart_if true R fail apart = apart
apart_if false R fail apart =
    record {
      status_bits_and_fail_bit = and_zero_r R;
      status_bits_and_low_bits = apart.status_bits_and_low_bits;
      fail_bit_and_low_bits = refl;
    }

-- where x has no bit below place k, `|` with a number below 2 ^ k adds it
or_below : (k x y : ℕ) → x % 2 ^ k ≡ 0 → y < 2 ^ k → bit_or x y ≡ x + y
or_below k x y free fits =
    let whole : x / 2 ^ k * 2 ^ k ≡ x = omega (arith, shr_split x k) in
    ap (λ (z : ℕ). bit_or z y) (sym whole) ∙ or_shifted (x / 2 ^ k) k y fits ∙ ap (λ (z : ℕ). z + y) whole

-- so parts without a common bit, the last of two bits, are their sum
pub joined : (R fail low : ℕ) → Apart R fail → low < 4 → bit_or (bit_or R fail) low ≡ R + fail + low
joined R fail low apart two =
    ap (λ (x : ℕ). bit_or x low) (or_disjoint R fail apart.status_bits_and_fail_bit)
    ∙ or_below 2 (R + fail) low (omega (arith, and_mask R 2, and_mask fail 2)) two
