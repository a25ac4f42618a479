-- Messages that end with their sum, and damage to them on the bus.
use Rattle.std.specs.Prelude.{◌≡◌, ℕ, ◌≤◌, Bool, ◌≢◌, List, ◌++◌, length}
use Rattle.crc.specs.Sum.{sum_of}
use Rattle.crc.specs.Transfer.{pair}

-- covered bytes followed by their sum, high byte first
abbrev pub EndsWithSum : List ℕ → Type 0
EndsWithSum message = (covered : List ℕ) × (message ≡ covered ++ pair (sum_of covered))

-- A burst: of the bits as sent and as received, in sending order, at least one of so many successive ones differs, and no
-- other.
pub record Burst (width : ℕ) (sent received : List Bool) : Type 0 where
  pub before : List Bool
  pub was : List Bool
  pub became : List Bool
  pub behind : List Bool
  pub sent_bits : sent ≡ before ++ (was ++ behind)
  pub received_bits : received ≡ before ++ (became ++ behind)
  pub in_place : length was ≡ length became
  pub short : length was ≤ width
  pub differs : was ≢ became
