-- What the sum covers in a page transfer, and how the sum itself is sent.
use Rattle.std.specs.Prelude.{◌≡◌, ◌≢◌, ℕ, zero, suc, ◌/◌, ◌%◌, ◌^◌, List, [], ◌∷◌, ◌++◌, Result, MatchResult}
use Rattle.crc.specs.declared.AddressBytes.{AddressBytes}
use Rattle.crc.specs.declared.AddressBytes.TheVariants.{Two, Three}
use Rattle.crc.specs.declared.NotTwoOrThree.{NotTwoOrThree}
use Rattle.crc.specs.Sum.{sum_of}

-- a number as k bytes, highest first
abbrev pub highest_first : ℕ → ℕ → List ℕ
highest_first zero a = []
highest_first (suc k) a = a / 256 ^ k % 256 ∷ highest_first k a

-- The sum of a page transfer covers the address modulo the array's size, as k bytes, and then the data bytes as sent.
abbrev pub page_sum : ℕ → ℕ → ℕ → List ℕ → ℕ
page_sum k size address sent = sum_of (highest_first k (address % size) ++ sent)

-- a sum as it is sent: two bytes, the high one first
abbrev pub pair : ℕ → List ℕ
pair sum = highest_first 2 sum

-- how many bytes an address has
abbrev pub count_of : AddressBytes → ℕ
count_of Two = 2
count_of Three = 3

-- the answer has so many bytes, or the number is neither 2 nor 3
abbrev pub Counts : ℕ → Result AddressBytes NotTwoOrThree → Type 0
Counts count r = MatchResult r (λ k. count_of k ≡ count) (λ e. (e.0 ≡ count) × (count ≢ 2) × (count ≢ 3))
