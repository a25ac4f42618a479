-- Dialect mr: the 1 Mbit MRAM, which is written byte by byte and has neither secure transfers nor store and recall.
use Rattle.std.specs.Prelude.{ℕ, ◌-◌, ◌/◌, ◌%◌, ◌^◌, true, false, cond, List, [], ◌∷◌, ◌==◌}
use Rattle.std.proofs.Common.{refl, inr, rules, arith}
use Rattle.std.proofs.lemmas.Bool.Decides.{nat_tests}
use Rattle.dialect.specs.Facts.{Facts, Lawful, bit, lookup}
use Rattle.dialect.specs.declared.Instruction.{Instruction}
use Rattle.dialect.specs.declared.Instruction.TheVariants.{Enable, Disable, ReadStatus, WriteStatus, Read, Write, Nothing}

abbrev pub opcodes : List (ℕ × Instruction)
opcodes =
    (0x06, Enable) ∷ (0x04, Disable)
    ∷ (0x05, ReadStatus) ∷ (0x01, WriteStatus)
    ∷ (0x03, Read) ∷ (0x02, Write)
    ∷ (0x00, Nothing)
    ∷ []

-- Bits 4 to 2 of R are a level.
abbrev pub level : ℕ → ℕ
level R = R / 4 % 8

-- Level 0 protects nothing, level 1 one part in 64, and each level above twice as much as the one below, up to everything at 7.
abbrev pub protected_bytes : ℕ → ℕ → ℕ
protected_bytes level N = cond (level == 0) 0 (N / 2 ^ (7 - level))

-- What is protected lies at the bottom if bit 5 of R is set, else at the top. Bit 7 is only stored.
-- Writing is never paged, so whether it runs on is never asked: it answers no.
abbrev pub mr : Facts
mr = record {
  address_bytes = 3;
  largest = 131072;
  decode = lookup opcodes;
  mask = 0xBC;
  fail_bit = 0;
  range = λ R N. cond (bit 5 R) (0, protected_bytes (level R) N) (N - protected_bytes (level R) N, N);
  direct = true;
  runs_on = λ R. false;
  power_store = λ R. true;
}

-- The law's proof is asked for with the dialect's meaning, so it stands here.
pub mr_is_lawful : Lawful mr
mr_is_lawful = record {
  address_has_2_or_3_bytes = search rules;
  largest_is_within_the_limit = search rules;
  largest_is_within_the_address = search rules;
  mask_is_a_byte = search rules;
  mask_lacks_bits_1_and_0 = refl;
  fail_bit_is_one_bit_above_2_or_0 = inr refl;
  fail_bit_is_outside_the_mask = refl;
  direct_has_no_fail_bit = λ direct. refl;
  no_secure_write_without_fail_bit = λ none opcode named. grind (arith, nat_tests);
  range_is_ordered = λ R N within alive. grind (arith, nat_tests);
  range_lies_in_the_array = λ R N within alive. grind (arith, nat_tests);
  paged_range_is_whole_pages = search rules;
}
