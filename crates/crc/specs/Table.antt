-- The rule of the code's table: entry i is i times the polynomial, without carries. No public contract speaks of it.
use Rattle.std.specs.Prelude.{ℕ, ◌*◌, ◌/◌, ◌%◌, List, map, bit_xor}
use Rattle.std.specs.List.{range_with_len}
use Rattle.crc.specs.Sum.{polynomial}

abbrev pub multiple : ℕ → ℕ
multiple i =
    bit_xor (i % 2 * polynomial)
    (bit_xor (i / 2 % 2 * (2 * polynomial)) (bit_xor (i / 4 % 2 * (4 * polynomial)) (i / 8 % 2 * (8 * polynomial))))

abbrev pub multiples : List ℕ
multiples = map multiple (range_with_len 0 16)
