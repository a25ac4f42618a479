-- The 16-bit sum of the secure frames: a cyclic redundancy check over the polynomial x^16 + x^12 + x^5 + 1 (1021h without
-- its leading term), started at FFFFh, fed highest bit first, with no final change. Bit by bit, so that it can be checked
-- by eye; the code steps by half bytes over a table, and its contracts say that it answers the same.
use Rattle.std.specs.Prelude.{ℕ, zero, suc, ◌*◌, ◌/◌, ◌%◌, ◌^◌, Bool, cond, List, [], ◌∷◌, ◌++◌, ◌==◌, bit_xor, nat_le}
use Rattle.std.specs.Bool.{xor}

abbrev pub polynomial : ℕ
polynomial = 0x1021

-- the register before the first bit
abbrev pub start : ℕ
start = 0xFFFF

-- the highest of the register's sixteen bits
abbrev pub top : ℕ → Bool
top r = nat_le 0x8000 r

-- the register moved up by one place, its top bit falling out
abbrev pub shifted : ℕ → ℕ
shifted r = r * 2 % 0x10000

-- One bit of the message: where it differs from the register's top bit, the polynomial is taken off.
unfoldable pub step : ℕ → Bool → ℕ
step r b = cond (xor (top r) b) (bit_xor (shifted r) polynomial) (shifted r)

-- the register after some bits, the first of the list sent first
abbrev pub after_bits : ℕ → List Bool → ℕ
after_bits r [] = r
after_bits r (b ∷ bs) = after_bits (step r b) bs

-- the n lowest bits of a number, highest first
abbrev pub bits : ℕ → ℕ → List Bool
bits zero x = []
bits (suc n) x = (x / 2 ^ n % 2 == 1) ∷ bits n x

-- the bits of a message in sending order: byte after byte, each highest bit first
abbrev pub message_bits : List ℕ → List Bool
message_bits [] = []
message_bits (x ∷ xs) = bits 8 x ++ message_bits xs

-- the register after a message
unfoldable pub after_message : ℕ → List ℕ → ℕ
after_message r message = after_bits r (message_bits message)

-- the sum of the bytes that it covers
abbrev pub sum_of : List ℕ → ℕ
sum_of covered = after_message start covered
