use Rattle.std.proofs.Common.{◌≡◌, ℕ, false, refl, ap, ◌∙◌, ⊎_elim, arith}
use lib.Count.{ones, ones_in}
use Rattle.std.proofs.lemmas.Nat.{pow_below}
use Rattle.powers.proofs.Powers.{one_bit_of_power}
use Rattle.dialect.specs.Facts.{Alive, OneBitAbove2}
use Rattle.strange.specs.Unlawful.{like_nv}
use Rattle.strange.proofs.unlawful_are_shut_out.Goals as goal

-- each law of the range is broken at R = 0 and N = 256, where a part is alive
alive : (range : ℕ → ℕ → ℕ × ℕ) → Alive (like_nv 0x6C 0x10 range false) 256
alive range =
    record { exponent = 8; is_a_power_of_two = refl; is_256_or_more = omega arith; is_within_the_largest = omega arith }

-- a bit value above 2 is above 2, and has one bit
two : OneBitAbove2 0x02 → ⊥
two bit = let (place, above, in-a-byte, is) = bit in omega (arith, pow_below 1 place above, is)

two_bits : OneBitAbove2 0x90 → ⊥
unfolding ones ones_in
two_bits bit =
    let (place, above, in-a-byte, is) = bit in
    let one : ◌≡◌ {A = ℕ} 2 1 = ap ones is ∙ one_bit_of_power place in
    omega arith

pub returns : goal.returns
returns c =
    record {
      mask_with_bit_1 = λ laws. omega arith;
      fail_bit_where_the_latch_shows = λ laws. ⊎_elim two (λ none. omega arith) laws.fail_bit_is_one_bit_above_2_or_0;
      fail_bit_of_two_bits = λ laws. ⊎_elim two_bits (λ none. omega arith) laws.fail_bit_is_one_bit_above_2_or_0;
      fail_bit_inside_the_mask = λ laws. omega arith;
      fail_bit_beside_direct_writing = λ laws. omega (arith, laws.direct_has_no_fail_bit refl);
      secure_write_without_a_fail_bit = λ laws. laws.no_secure_write_without_fail_bit refl 0x12 refl;
      range_that_runs_backwards = λ laws. omega (arith, laws.range_is_ordered 0 256 refl (alive _));
      range_past_the_end = λ laws. omega (arith, laws.range_lies_in_the_array 0 256 refl (alive _));
      range_that_ends_off_a_page = λ laws. omega (arith, (laws.paged_range_is_whole_pages refl 0 256 refl (alive _)).1);
    }
