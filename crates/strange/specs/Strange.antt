-- A dialect that no maker sells: all that the laws leave open, it uses.
-- Bytes are put as they arrive, and yet it stores and recalls; read has two opcodes; nothing or everything is protected.
use Rattle.std.specs.Prelude.{ℕ, true, cond, List, [], ◌∷◌, ◌==◌}
use Rattle.std.proofs.Common.{refl, inr, rules, arith}
use Rattle.std.proofs.lemmas.Nat.Bits.{and_high}
use Rattle.std.proofs.lemmas.Bool.Decides.{nat_tests}
use Rattle.dialect.specs.Facts.{Facts, Lawful, bit, lookup}
use Rattle.dialect.specs.declared.Instruction.{Instruction}
use Rattle.dialect.specs.declared.Instruction.TheVariants.{Enable, ReadStatus, WriteStatus, Read, Write, Store, Recall}

abbrev pub opcodes : List (ℕ × Instruction)
opcodes =
    (0xE0, Enable) ∷ (0xE1, ReadStatus) ∷ (0xE2, WriteStatus)
    ∷ (0x03, Read) ∷ (0x0B, Read) ∷ (0x02, Write)
    ∷ (0xFE, Store) ∷ (0xFF, Recall)
    ∷ []

-- R is 00h or 80h in a part, since the mask is 80h. No part asks for another R, and there this range runs backwards.
abbrev pub strange : Facts
strange = record {
  address_bytes = 2;
  largest = 65536;
  decode = lookup opcodes;
  mask = 0x80;
  fail_bit = 0;
  range = λ R N. cond (R == 0x00) (0, 0) (cond (R == 0x80) (0, N) (N, 0));
  direct = true;
  runs_on = λ R. true;
  power_store = bit 7;
}

-- The law's proof is asked for with the dialect's meaning, so it stands here.
pub strange_is_lawful : Lawful strange
strange_is_lawful = record {
  address_has_2_or_3_bytes = search rules;
  largest_is_within_the_limit = search rules;
  largest_is_within_the_address = search rules;
  mask_is_a_byte = search rules;
  mask_lacks_bits_1_and_0 = refl;
  fail_bit_is_one_bit_above_2_or_0 = inr refl;
  fail_bit_is_outside_the_mask = refl;
  direct_has_no_fail_bit = λ direct. refl;
  no_secure_write_without_fail_bit = λ none opcode named. grind (arith, nat_tests);
  range_is_ordered = λ R N within alive. let top = and_high R 1 7 in grind (arith, nat_tests);
  range_lies_in_the_array = λ R N within alive. let top = and_high R 1 7 in grind (arith, nat_tests);
  paged_range_is_whole_pages = search rules;
}
