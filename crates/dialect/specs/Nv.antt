-- Dialect nv: the 256 kbit nvSRAM, which is written page by page and has secure transfers, store and recall.
use Rattle.std.specs.Prelude.{ℕ, ◌-◌, ◌/◌, ◌%◌, false, cond, not, List, [], ◌∷◌, ◌==◌}
use Rattle.std.proofs.Common.{◌≡◌, refl, inl, rules, arith}
use Rattle.std.proofs.lemmas.Bool.Decides.{nat_tests}
use Rattle.dialect.specs.Facts.{Facts, Lawful, bit, lookup}
use Rattle.dialect.specs.Sizes.{whole_256s}
use Rattle.dialect.specs.declared.Instruction.{Instruction}
use Rattle.dialect.specs.declared.Instruction.TheVariants.{Enable, Disable, ReadStatus, WriteStatus, Read, Write, SecureRead, SecureWrite, Store, Recall}

abbrev pub opcodes : List (ℕ × Instruction)
opcodes =
    (0x06, Enable) ∷ (0x04, Disable)
    ∷ (0x05, ReadStatus) ∷ (0x01, WriteStatus)
    ∷ (0x03, Read) ∷ (0x02, Write)
    ∷ (0x13, SecureRead) ∷ (0x12, SecureWrite) ∷ (0x3C, Store) ∷ (0x60, Recall)
    ∷ []

-- Bits 3 and 2 of R are a level.
abbrev pub level : ℕ → ℕ
level R = R / 4 % 4

-- Levels 0 to 3 protect nothing, the upper quarter, the upper half, everything.
abbrev pub protected_bytes : ℕ → ℕ → ℕ
protected_bytes level N =
    cond (level == 0) 0 (cond (level == 1) (N / 4) (cond (level == 2) (N / 2) N))

-- What is protected lies at the top. Bit 5 of R makes writes run on, and bit 6 turns PowerStore off.
abbrev pub nv : Facts
nv = record {
  address_bytes = 2;
  largest = 32768;
  decode = lookup opcodes;
  mask = 0x6C;
  fail_bit = 0x10;
  range = λ R N. (N - protected_bytes (level R) N, N);
  direct = false;
  runs_on = bit 5;
  power_store = λ R. not (bit 6 R);
}

-- The law's proof is asked for with the dialect's meaning, so it stands here.
pub nv_is_lawful : Lawful nv
nv_is_lawful = record {
  address_has_2_or_3_bytes = search rules;
  largest_is_within_the_limit = search rules;
  largest_is_within_the_address = search rules;
  mask_is_a_byte = search rules;
  mask_lacks_bits_1_and_0 = refl;
  fail_bit_is_one_bit_above_2_or_0 = inl (4, omega arith, omega arith, refl);
  fail_bit_is_outside_the_mask = refl;
  direct_has_no_fail_bit = search rules;
  no_secure_write_without_fail_bit = λ none. absurd (omega arith);
  range_is_ordered = λ R N within alive. omega arith;
  range_lies_in_the_array = λ R N within alive. omega arith;
  paged_range_is_whole_pages =
      λ paged R N within alive. let whole : N % 256 ≡ 0 = whole_256s alive in (grind (arith, nat_tests), omega arith);
}
