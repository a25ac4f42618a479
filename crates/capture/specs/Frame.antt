-- The secure frame that a captured line stands for, and what is to be said of it.
use Rattle.std.specs.Prelude.{ℕ, ◌/◌, ◌%◌, ◌^◌, Bool, cond, ◌&&◌, List, Ok, Err, Result, ◌==◌, count_ones, nat_le}
use Rattle.crc.specs.declared.AddressBytes.{AddressBytes}
use Rattle.crc.specs.declared.AddressBytes.TheVariants.{Two, Three}
use Rattle.crc.specs.Transfer.{count_of, page_sum}
use Rattle.fields.specs.declared.Unreadable.{Unreadable}
use Rattle.fields.specs.declared.Unreadable.TheVariants as unreadable
use Rattle.fields.specs.Fields.{Read, ◌then◌, something_on, nothing_behind, read_number, read_bytes, read_highest_first}
use Rattle.capture.specs.declared.Frame.{Frame}
use Rattle.capture.specs.declared.Header.{Header}
use Rattle.capture.specs.declared.Verdict.{Verdict}

-- 2 or 3
abbrev pub address_bytes_of : ℕ → Result AddressBytes Unreadable
address_bytes_of n = cond (n == 2) (Ok Two) (cond (n == 3) (Ok Three) (Err unreadable.AddressBytes))

-- A power of two (one of its binary digits is 1) from 256 to 256 ^ k, which is as far as k address bytes reach.
abbrev pub is_size : ℕ → ℕ → Bool
is_size k n = nat_le 256 n && (nat_le n (256 ^ k) && count_ones n == 1)

abbrev pub size_of : AddressBytes → ℕ → Result ℕ Unreadable
size_of k n = cond (is_size (count_of k) n) (Ok n) (Err unreadable.Size)

-- the array's size and the number of address bytes
unfoldable pub read_header : List ℕ → Read Header
read_header line =
    something_on line then λ _.
    read_number unreadable.Size line then λ (n, text).
    read_number unreadable.AddressBytes text then λ (count, text).
    address_bytes_of count then λ k.
    size_of k n then λ size.
    Ok (record { size = size; address_bytes = k }, text)

-- A line: the array's size and the number k of address bytes, and then the frame: k bytes of address, highest first, 64
-- bytes of data as sent, and the sum, high byte first.
unfoldable pub reading : List ℕ → Result Frame Unreadable
reading line =
    read_header line then λ (header, text).
    read_highest_first (count_of header.address_bytes) 0 text then λ (address, text).
    read_bytes 64 text then λ (page, text).
    read_highest_first 2 0 text then λ (sum, text).
    nothing_behind text then λ _.
    Ok (record { size = header.size; address_bytes = header.address_bytes; address = address; sent = page; sum = sum })

-- the address as it chooses among the array's bytes
abbrev pub place : Frame → ℕ
place frame = frame.address % frame.size

-- the sum worked out from what it covers
abbrev pub right_sum : Frame → ℕ
right_sum frame = page_sum (count_of frame.address_bytes) frame.size frame.address frame.sent

-- A frame is right if its sum fits. Its page is 64 bytes from 64 times the page's number.
abbrev pub verdict : Frame → Verdict
verdict frame = record {
  right = (right_sum frame == frame.sum);
  page = place frame / 64;
  offset = place frame % 64;
  sum_sent = frame.sum;
  sum_worked_out = right_sum frame;
}

abbrev pub examined : List ℕ → Result Verdict Unreadable
examined line = reading line then λ frame. Ok (verdict frame)
