-- Each of these differs from dialect nv in one fact that breaks a law, and so is no dialect.
use Rattle.std.specs.Prelude.{ℕ, ◌+◌, ◌-◌, Bool, true, false}
use Rattle.dialect.specs.Facts.{Facts, Lawful}
use Rattle.dialect.specs.Nv.{nv}

-- nv with another mask, fail bit, protected range and kind of writing
abbrev pub like_nv : ℕ → ℕ → (ℕ → ℕ → ℕ × ℕ) → Bool → Facts
like_nv mask fail_bit range direct = record {
  address_bytes = nv.address_bytes;
  largest = nv.largest;
  decode = nv.decode;
  mask = mask;
  fail_bit = fail_bit;
  range = range;
  direct = direct;
  runs_on = nv.runs_on;
  power_store = nv.power_store;
}

pub record ShutOut : Type 0 where
  pub mask_with_bit_1 : Lawful (like_nv 0x6E 0x10 nv.range false) → ⊥
  pub fail_bit_where_the_latch_shows : Lawful (like_nv 0x6C 0x02 nv.range false) → ⊥
  pub fail_bit_of_two_bits : Lawful (like_nv 0x6C 0x90 nv.range false) → ⊥
  pub fail_bit_inside_the_mask : Lawful (like_nv 0x6C 0x20 nv.range false) → ⊥
  pub fail_bit_beside_direct_writing : Lawful (like_nv 0x6C 0x10 nv.range true) → ⊥
  pub secure_write_without_a_fail_bit : Lawful (like_nv 0x6C 0 nv.range false) → ⊥
  pub range_that_runs_backwards : Lawful (like_nv 0x6C 0x10 (λ R N. (N, 0)) false) → ⊥
  pub range_past_the_end : Lawful (like_nv 0x6C 0x10 (λ R N. (0, N + 64)) false) → ⊥
  pub range_that_ends_off_a_page : Lawful (like_nv 0x6C 0x10 (λ R N. (0, N - 1)) false) → ⊥
