-- A run file: a count, so many pairs of offset and length, and the records where the pairs point. All numbers have two bytes,
-- highest first.
use Rattle.std.specs.Prelude.{ℕ, zero, suc, ◌+◌, ◌*◌, Bool, cond, ◌&&◌, ◌||◌, List, [], ◌∷◌, map, length, take, drop, Some, None, Option, ◌==◌, nat_le, nat_lt, slice_index}
use Rattle.std.specs.List.{range_with_len}
use Rattle.runfile.specs.declared.fault.OpeningFault.{OpeningFault}
use Rattle.runfile.specs.declared.fault.OpeningFault.TheVariants.{NoTable, Misplaced, PastEnd}
use Rattle.runfile.specs.declared.fault.Spot.{Spot}
use Rattle.runfile.specs.declared.fault.FileFault.{FileFault}
use Rattle.runfile.specs.Numbers.{opening_fault_at}

-- the number at a place
abbrev pub number_at : List ℕ → ℕ → ℕ
number_at file place = 256 * slice_index file place + slice_index file (place + 1)

abbrev pub count_of : List ℕ → ℕ
count_of file = number_at file 0

-- the place of pair i; that of the pair behind the last is the table's end
abbrev pub pair_place : ℕ → ℕ
pair_place i = 2 + 4 * i

abbrev pub offset_of : List ℕ → ℕ → ℕ
offset_of file i = number_at file (pair_place i)

abbrev pub length_of : List ℕ → ℕ → ℕ
length_of file i = number_at file (pair_place i + 2)

-- the place behind record i
abbrev pub end_of : List ℕ → ℕ → ℕ
end_of file i = offset_of file i + length_of file i

-- where record i may start at the earliest: at the table's end, or at the end of the record before
abbrev pub earliest : List ℕ → ℕ → ℕ
earliest file zero = pair_place (count_of file)
earliest file (suc i) = end_of file i

-- The file is not too long, has no more than 1,024 records, and its table is there.
abbrev pub has_table : List ℕ → Bool
has_table file = nat_le (length file) 65535 && (nat_le 2 (length file) && (nat_le (count_of file) 1024 && nat_le (pair_place (count_of file)) (length file)))

-- The fault of a pair by itself, in a file of so many bytes, if its record may start at the floor at the earliest: 32, then 33.
abbrev pub fault_of : ℕ → ℕ → ℕ → ℕ → Option OpeningFault
fault_of offset len floor size =
    cond (len == 0 || nat_lt offset floor) (Some Misplaced) (cond (nat_lt size (offset + len)) (Some PastEnd) None)

-- The fault of pair i.
abbrev pub pair_fault : List ℕ → ℕ → Option OpeningFault
pair_fault file i = fault_of (offset_of file i) (length_of file i) (earliest file i) (length file)

abbrev pub spot : ℕ → ℕ → Spot
spot i place = record { number = i; place = place }

-- the first fault among pairs
abbrev pub first_fault : List ℕ → List ℕ → Option FileFault
first_fault file [] = None
first_fault file (i ∷ pairs) =
    elim (pair_fault file i) [ Some f ↦ Some (opening_fault_at (spot i (pair_place i)) f) | None ↦ first_fault file pairs ]

-- The fault of opening a file, or none if it opens.
unfoldable pub opening_fault : List ℕ → Option FileFault
opening_fault file =
    cond (has_table file) (first_fault file (range_with_len 0 (count_of file))) (Some (opening_fault_at (spot 0 0) NoTable))

-- a record with its number, its place and its bytes
pub record Located : Type 0 where
  pub spot : Spot
  pub bytes : List ℕ

-- record i: the part of the file where its pair points
abbrev pub record_at : List ℕ → ℕ → Located
record_at file i = record { spot = spot i (offset_of file i); bytes = take (length_of file i) (drop (offset_of file i) file) }

-- all records of a file
abbrev pub records_of : List ℕ → List Located
records_of file = map (record_at file) (range_with_len 0 (count_of file))

-- record i, if its pair and the record itself stand in the file
abbrev pub located : List ℕ → ℕ → Option Located
located file i = cond (nat_le (pair_place i + 4) (length file) && nat_le (end_of file i) (length file)) (Some (record_at file i)) None
