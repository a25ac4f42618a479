-- The fields of a captured line: blanks, decimal numbers, and bytes as pairs of hexadecimal digits. Each function reads
-- one thing from the front of a text, and answers it together with the text behind it, or why the line is unreadable.
use Rattle.std.specs.Prelude.{ℕ, zero, suc, ◌+◌, ◌-◌, ◌*◌, ◌^◌, min, Bool, true, false, cond, ◌&&◌, ◌||◌, List, [], ◌∷◌, Ok, Err, Result, ◌==◌, nat_le, nat_lt}
use Rattle.std.specs.Borrow.{Bor}
use Rattle.fields.specs.declared.Unreadable.{Unreadable}
use Rattle.fields.specs.declared.Unreadable.TheVariants as unreadable

-- what stands at the front of a text, and the text behind it
abbrev pub Read : Type 0 → Type 0
Read X = Result (X × List ℕ) Unreadable

-- one step after another: the first failure is the answer
infixr 20 ◌then◌
abbrev pub ◌then◌ : {X Y : Type 0} → Result X Unreadable → (X → Result Y Unreadable) → Result Y Unreadable
(Ok x) then next = next x
(Err why) then next = Err why

-- ---- characters

abbrev pub within : ℕ → ℕ → ℕ → Bool
within first last c = nat_le first c && nat_le c last

-- space, tab and carriage return
abbrev pub blank : ℕ → Bool
blank c = c == 32 || (c == 9 || c == 13)

-- 0 to 9
abbrev pub digit : ℕ → Bool
digit c = within 48 57 c

-- what a character is worth as a hexadecimal digit, 0 to 9, A to F or a to f; 16 where it is none
abbrev pub worth : ℕ → ℕ
worth c = cond (within 48 57 c) (c - 48) (cond (within 65 70 c) (c - 55) (cond (within 97 102 c) (c - 87) 16))

unfoldable pub digit_value : ℕ → ℕ
digit_value c = worth c

abbrev pub hexadecimal : Unreadable → ℕ → Result ℕ Unreadable
hexadecimal why c = cond (nat_lt (digit_value c) 16) (Ok (digit_value c)) (Err why)

-- the next character
abbrev pub next : Unreadable → List ℕ → Read ℕ
next why [] = Err why
next why (c ∷ text) = Ok (c, text)

-- ---- blanks

-- the text from its first character that is no blank
abbrev pub past_blanks : List ℕ → List ℕ
past_blanks [] = []
past_blanks (c ∷ text) = cond (blank c) (past_blanks text) (c ∷ text)

abbrev pub is_empty : List ℕ → Bool
is_empty [] = true
is_empty (c ∷ text) = false

-- something else than blanks stands on the line
abbrev pub something_on : List ℕ → Result (Unit {0}) Unreadable
something_on line = cond (is_empty (past_blanks line)) (Err unreadable.Empty) (Ok tt)

-- nothing but blanks stands behind the frame
abbrev pub nothing_behind : List ℕ → Result (Unit {0}) Unreadable
nothing_behind text = cond (is_empty (past_blanks text)) (Ok tt) (Err unreadable.TooLong)

-- ---- decimal numbers

-- the digits that a text begins with, read on from the number n before them
abbrev pub digits : ℕ → List ℕ → ℕ × List ℕ
digits n [] = (n, [])
digits n (c ∷ text) = cond (digit c) (digits (n * 10 + (c - 48)) text) (n, c ∷ text)

abbrev pub begins_with_digit : List ℕ → Bool
begins_with_digit [] = false
begins_with_digit (c ∷ text) = digit c

-- a blank or the end
abbrev pub ends_here : List ℕ → Bool
ends_here [] = true
ends_here (c ∷ text) = blank c

-- a decimal number: at least one digit, and behind its digits a blank or the end
abbrev pub number_at : Unreadable → List ℕ → Read ℕ
number_at why text = cond (begins_with_digit text && ends_here (digits 0 text).1) (Ok (digits 0 text)) (Err why)

unfoldable pub read_number : Unreadable → List ℕ → Read ℕ
read_number why text = number_at why (past_blanks text)

-- ---- bytes

-- a byte's second digit is missing, or something else stands there
abbrev pub no_second_digit : ℕ → Unreadable
no_second_digit c = cond (blank c) unreadable.HalfByte unreadable.NotHexadecimal

-- a byte: two hexadecimal digits, blanks before but not between them
unfoldable pub read_byte : List ℕ → Read ℕ
read_byte text =
    next unreadable.TooShort (past_blanks text) then λ (c, text).
    hexadecimal unreadable.NotHexadecimal c then λ high.
    next unreadable.HalfByte text then λ (c, text).
    hexadecimal (no_second_digit c) c then λ low.
    Ok (high * 16 + low, text)

-- so many bytes
unfoldable pub read_bytes : ℕ → List ℕ → Read (List ℕ)
read_bytes zero text = Ok ([], text)
read_bytes (suc n) text =
    read_byte text then λ (byte, text).
    read_bytes n text then λ (bytes, text).
    Ok (byte ∷ bytes, text)

-- a number of so many bytes, highest first, read on from the number n before them
unfoldable pub read_highest_first : ℕ → ℕ → List ℕ → Read ℕ
read_highest_first zero n text = Ok (n, text)
read_highest_first (suc count) n text = read_byte text then λ (byte, text). read_highest_first count (n * 256 + byte) text

-- ---- what the code's functions answer

-- a reference stands for the text that it points to
abbrev pub seen : {X : Type 0} → Result (X × Bor (List ℕ)) Unreadable → Read X
seen (Ok (x, rest)) = Ok (x, rest.now)
seen (Err why) = Err why

-- Past the largest number of 32 bits the code's numbers stay there.
abbrev pub capped : ℕ → ℕ
capped n = min n (2 ^ 32 - 1)

abbrev pub with_capped : Read ℕ → Read ℕ
with_capped (Ok (n, rest)) = Ok (capped n, rest)
with_capped (Err why) = Err why
