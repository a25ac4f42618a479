-- What is fixed about a part: the facts of its dialect, and the size and the mark of its cell array.
use Rattle.std.specs.Prelude.{ℕ, ◌+◌, ◌*◌, ◌/◌, ◌%◌, Bool, ◌&&◌, ◌==◌, count_ones, nat_le, nat_lt}
use Rattle.dialect.specs.Facts.{Facts}

pub record Kind : Type 0 where
  pub facts : Facts
  -- the size N of the array, in bytes
  pub size : ℕ
  -- whether a put reaches the kept image at once
  pub lasting : Bool

-- A page is 64 bytes: page p begins at 64 × p.
abbrev pub pages : Kind → ℕ
pages k = k.size / 64

-- A part is alive if its size is a power of two (one binary digit is 1) from 256 to its dialect's largest. Else it is
-- dead, and refuses every call.
abbrev pub alive : Kind → Bool
alive k = nat_le 256 k.size && (nat_le k.size k.facts.largest && count_ones k.size == 1)

-- the address behind a; behind the last comes 0
abbrev pub next : Kind → ℕ → ℕ
next k a = (a + 1) % k.size

-- the page behind p; behind the last comes page 0
abbrev pub next_page : Kind → ℕ → ℕ
next_page k p = (p + 1) % pages k

-- a range is its first address and its end, the address behind its last
abbrev pub in_range : ℕ × ℕ → ℕ → Bool
in_range range a = nat_le range.0 a && nat_lt a range.1

-- Under status bits R an address is protected if it lies in the dialect's range, and a page if its first address does.
abbrev pub protected : Kind → ℕ → ℕ → Bool
protected k R a = in_range (k.facts.range R k.size) a

abbrev pub page_protected : Kind → ℕ → ℕ → Bool
page_protected k R p = protected k R (64 * p)
