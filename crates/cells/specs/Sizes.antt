-- The sizes of arrays over lent memory: the powers of two from a smallest to a largest one. Room for any other number of
-- bytes makes an array of size 0.
use Rattle.std.specs.Prelude.{◌≡◌, ℕ, ◌/◌, ◌^◌, ◌≤◌, Bool, cond, ◌&&◌, ◌==◌, count_ones, nat_le}

abbrev pub smallest : ℕ
smallest = 256

abbrev pub largest : ℕ
largest = 131072

-- a power of two has one binary digit that is 1
abbrev pub is_size : ℕ → Bool
is_size n = nat_le smallest n && (nat_le n largest && count_ones n == 1)

-- the pages of an array that has room for so many bytes in each image
abbrev pub pages_for : ℕ → ℕ
pages_for room = cond (is_size room) (room / 64) 0

-- The same without the count of digits: the size is the room if that is a power of two within the bounds, else 0.
abbrev pub Size : ℕ → Type 0
Size n = ((e : ℕ) × (n ≡ 2 ^ e)) × (smallest ≤ n) × (n ≤ largest)

pub record Sized (room size : ℕ) : Type 0 where
  pub whole : Size room → size ≡ room
  pub none : (Size room → ⊥) → size ≡ 0
