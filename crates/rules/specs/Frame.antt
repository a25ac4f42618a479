-- The secure frame: k address bytes, 64 data bytes, and the sum of the page transfer, high byte first.
use Rattle.std.specs.Prelude.{ℕ, ◌+◌, ◌*◌, ◌/◌, ◌%◌, Bool, List, [], ◌∷◌, length, take, drop, ◌==◌}
use Rattle.crc.specs.Transfer.{page_sum}
use Rattle.dialect.specs.Facts.{Facts}
use Rattle.rules.specs.Kind.{Kind}

-- the number that bytes write, highest first, behind a number so far
abbrev pub number_behind : ℕ → List ℕ → ℕ
number_behind n [] = n
number_behind n (b ∷ bs) = number_behind (n * 256 + b) bs

abbrev pub number : List ℕ → ℕ
number bytes = number_behind 0 bytes

abbrev pub frame_length : Kind → ℕ
frame_length k = k.facts.address_bytes + 66

-- the parts of a frame: the address as sent, the data bytes, and the sum as sent
abbrev pub frame_address : Kind → List ℕ → ℕ
frame_address k bytes = number (take k.facts.address_bytes bytes)

abbrev pub frame_data : Kind → List ℕ → List ℕ
frame_data k bytes = take 64 (drop k.facts.address_bytes bytes)

abbrev pub frame_sum : Kind → List ℕ → ℕ
frame_sum k bytes = number (drop (k.facts.address_bytes + 64) bytes)

-- A frame of the right length is right if its sum is that of the page transfer: the address modulo N, then the data.
abbrev pub is_right : Kind → List ℕ → Bool
is_right k bytes =
    (page_sum k.facts.address_bytes k.size (frame_address k bytes) (frame_data k bytes) == frame_sum k bytes)

-- where its data begin
abbrev pub frame_place : Kind → List ℕ → ℕ
frame_place k bytes = frame_address k bytes % k.size
