-- Why a line is unreadable, in words.
use Rattle.std.specs.Prelude.{ℕ, List, codes}
use Rattle.fields.specs.declared.Unreadable.{Unreadable}
use Rattle.fields.specs.declared.Unreadable.TheVariants.{Empty, Size, AddressBytes, NotHexadecimal, HalfByte, TooShort, TooLong}

unfoldable pub reason : Unreadable → List ℕ
reason Empty = codes "nothing stands on the line"
reason Size = codes "the size is no power of two from 256 to 65536 (2 address bytes) or 16777216 (3)"
reason AddressBytes = codes "the number of address bytes is not 2 or 3"
reason NotHexadecimal = codes "a character is no hexadecimal digit"
reason HalfByte = codes "a byte has one hexadecimal digit only"
reason TooShort = codes "the line ends before the frame does"
reason TooLong = codes "something stands behind the frame"
