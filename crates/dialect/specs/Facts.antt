-- What a dialect fixes about a part, and the laws that every dialect owes.
-- R are the status bits that a part keeps, and N is the size of its cell array in bytes.
use Rattle.std.specs.Prelude.{◌≡◌, ℕ, ◌/◌, ◌%◌, ◌^◌, ◌<◌, ◌≤◌, Bool, true, false, cond, ◌⊎◌, List, [], ◌∷◌, Some, None, Option, ◌==◌, ◌≢◌, bit_and}
use Rattle.dialect.specs.declared.Instruction.{Instruction}
use Rattle.dialect.specs.declared.Instruction.TheVariants.{SecureWrite}

pub record Facts : Type 0 where
  -- how many bytes an address is sent in
  pub address_bytes : ℕ
  -- the largest N at which a part is alive
  pub largest : ℕ
  -- the instruction that an opcode names, or none
  pub decode : ℕ → Option Instruction
  -- the bits that a status write sets
  pub mask : ℕ
  -- the bit by which the status shows the fail mark; 0 where there is none
  pub fail_bit : ℕ
  -- the protected range at R and N: its first address, and its end, the address behind its last
  pub range : ℕ → ℕ → ℕ × ℕ
  -- whether a write puts each byte as it arrives; else it is paged, and gathers a page of 64 bytes first
  pub direct : Bool
  -- whether, at R, a paged write goes on at the next page; else it rolls over in its page
  pub runs_on : ℕ → Bool
  -- whether, at R, PowerStore is on: a charged part that loses power while idle keeps what was written
  pub power_store : ℕ → Bool

-- The largest size of any dialect is at most this.
abbrev pub size_limit : ℕ
size_limit = 131072

-- A part is alive at N: a power of two from 256 up to the dialect's largest.
pub record Alive (f : Facts) (N : ℕ) : Type 0 where
  pub exponent : ℕ
  pub is_a_power_of_two : N ≡ 2 ^ exponent
  pub is_256_or_more : 256 ≤ N
  pub is_within_the_largest : N ≤ f.largest

-- R has only bits of the mask.
abbrev pub Within : Facts → ℕ → Type 0
Within f R = bit_and R f.mask ≡ R

-- P holds of the range's first address, its end and N, wherever a part asks for the range: at R within the mask, since R is
-- 0 at first and then only what status writes set, and at N where the part is alive, since a dead one refuses before it asks.
-- Elsewhere a dialect may answer any pair.
abbrev pub EachRange : Facts → (ℕ → ℕ → ℕ → Type 0) → Type 0
EachRange f P = (R N : ℕ) → Within f R → Alive f N → P (f.range R N).0 (f.range R N).1 N

-- The value of one bit of a byte, above 2.
abbrev pub OneBitAbove2 : ℕ → Type 0
OneBitAbove2 value = (place : ℕ) × (2 ≤ place) × (place < 8) × (value ≡ 2 ^ place)

pub record Lawful (f : Facts) : Type 0 where
  pub address_has_2_or_3_bytes : (2 ≤ f.address_bytes) × (f.address_bytes ≤ 3)
  pub largest_is_within_the_limit : f.largest ≤ size_limit
  pub largest_is_within_the_address : f.largest ≤ 256 ^ f.address_bytes
  pub mask_is_a_byte : f.mask < 256
  pub mask_lacks_bits_1_and_0 : bit_and f.mask 3 ≡ 0
  pub fail_bit_is_one_bit_above_2_or_0 : OneBitAbove2 f.fail_bit ⊎ (f.fail_bit ≡ 0)
  pub fail_bit_is_outside_the_mask : bit_and f.mask f.fail_bit ≡ 0
  pub direct_has_no_fail_bit : f.direct ≡ true → f.fail_bit ≡ 0
  pub no_secure_write_without_fail_bit : f.fail_bit ≡ 0 → (opcode : ℕ) → f.decode opcode ≢ Some SecureWrite
  pub range_is_ordered : EachRange f (λ first end N. first ≤ end)
  pub range_lies_in_the_array : EachRange f (λ first end N. end ≤ N)
  pub paged_range_is_whole_pages : f.direct ≡ false → EachRange f (λ first end N. (first % 64 ≡ 0) × (end % 64 ≡ 0))

-- Two words for the tables of the dialects. The bit of x at a place, counted from 0, is set.
abbrev pub bit : ℕ → ℕ → Bool
bit place x = x / 2 ^ place % 2 == 1

-- What stands beside an opcode in a list, or none.
abbrev pub lookup : List (ℕ × Instruction) → ℕ → Option Instruction
lookup [] opcode = None
lookup (row ∷ rows) opcode = cond (opcode == row.0) (Some row.1) (lookup rows opcode)
