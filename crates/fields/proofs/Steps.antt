-- One step of reading after another.
use Rattle.std.proofs.Common.{◌≡◌, ℕ, zero, suc, length, slice_index, arith, ◌+◌, ◌*◌, List, [], ◌∷◌, ◌++◌, Ok, Err, Result, refl, ap, ◌∙◌, append_assoc}
use Rattle.fields.specs.declared.Unreadable.{Unreadable}
use Rattle.fields.specs.Fields.{Read, ◌then◌, read_byte, read_bytes, read_highest_first}

pub then_ok : {X Y : Type 0} {r : Result X Unreadable} {x : X} (next : X → Result Y Unreadable) → Ok x ≡ r → next x ≡ (r then next)
then_ok next e = ap (λ q. q then next) e

pub then_err : {X Y : Type 0} {r : Result X Unreadable} {why : Unreadable} (next : X → Result Y Unreadable) → Err why ≡ r → Err why ≡ (r then next)
then_err next e = ap (λ q. q then next) e

-- ---- bytes behind those that were read before

abbrev pub behind : List ℕ → Read (List ℕ) → Read (List ℕ)
behind front (Ok (bytes, rest)) = Ok (front ++ bytes, rest)
behind front (Err why) = Err why

pub behind_none : (r : Read (List ℕ)) → behind [] r ≡ r
behind_none (Ok (bytes, rest)) = refl
behind_none (Err why) = refl

one_more : (front : List ℕ) (byte : ℕ) (r : Read (List ℕ))
    → behind (front ++ byte ∷ []) r ≡ behind front (r then λ (bytes, text). Ok (byte ∷ bytes, text))
one_more front byte (Ok (bytes, rest)) = ap (λ l. Ok (l, rest)) (append_assoc front (byte ∷ []) bytes)
one_more front byte (Err why) = refl

pub page_more : (count : ℕ) (front : List ℕ) (text : List ℕ) (byte : ℕ) (rest : List ℕ) → Ok (byte, rest) ≡ read_byte text
    → behind (front ++ byte ∷ []) (read_bytes count rest) ≡ behind front (read_bytes (suc count) text)
unfolding read_bytes
page_more count front text byte rest e =
    one_more front byte (read_bytes count rest)
    ∙ ap (behind front) (then_ok (λ p. read_bytes count p.1 then λ (bytes, text). Ok (p.0 ∷ bytes, text)) e)

pub page_fails : (count : ℕ) (front : List ℕ) (text : List ℕ) (why : Unreadable) → Err why ≡ read_byte text
    → Err why ≡ behind front (read_bytes (suc count) text)
unfolding read_bytes
page_fails count front text why e =
    ap (behind front) (then_err (λ p. read_bytes count p.1 then λ (bytes, text). Ok (p.0 ∷ bytes, text)) e)

pub page_none : (text : List ℕ) → read_bytes 0 text ≡ Ok ([], text)
unfolding read_bytes
page_none text = refl

-- ---- bytes that make a number

-- read on from the number before them
abbrev pub value : ℕ → List ℕ → ℕ
value n [] = n
value n (byte ∷ bytes) = value (n * 256 + byte) bytes

abbrev pub as_number : ℕ → Read (List ℕ) → Read ℕ
as_number n (Ok (bytes, rest)) = Ok (value n bytes, rest)
as_number n (Err why) = Err why

first_counts : (n byte : ℕ) (r : Read (List ℕ))
    → as_number n (r then λ (bytes, text). Ok (byte ∷ bytes, text)) ≡ as_number (n * 256 + byte) r
first_counts n byte (Ok (bytes, rest)) = refl
first_counts n byte (Err why) = refl

number_of_bytes : (count n : ℕ) (text : List ℕ) → as_number n (read_bytes count text) ≡ read_highest_first count n text
unfolding read_bytes read_highest_first
number_of_bytes zero n text = refl
number_of_bytes (suc count) n text = elim (read_byte text) as (λ r.
    as_number n (r then λ (byte, rest). read_bytes count rest then λ (bytes, rest). Ok (byte ∷ bytes, rest))
    ≡ (r then λ (byte, rest). read_highest_first count (n * 256 + byte) rest)) [
      | Ok p ↦ first_counts n p.0 (read_bytes count p.1) ∙ number_of_bytes count (n * 256 + p.0) p.1
      | Err why ↦ refl
    ]

pub number_read : (count n : ℕ) (text bytes rest : List ℕ) → n ≡ value 0 bytes → Ok (bytes, rest) ≡ read_bytes count text
    → Ok (n, rest) ≡ read_highest_first count 0 text
number_read count n text bytes rest same e =
    ap (λ k. Ok (k, rest)) same ∙ ap (as_number 0) e ∙ number_of_bytes count 0 text

pub number_fails : (count : ℕ) (text : List ℕ) (why : Unreadable) → Err why ≡ read_bytes count text
    → Err why ≡ read_highest_first count 0 text
number_fails count text why e = ap (as_number 0) e ∙ number_of_bytes count 0 text

pub two_bytes : (bytes : List ℕ) → length bytes ≡ 2 → slice_index bytes 0 * 256 + slice_index bytes 1 ≡ value 0 bytes
two_bytes [] e = absurd (omega arith)
two_bytes (a ∷ []) e = absurd (omega arith)
two_bytes (a ∷ b ∷ []) e = omega arith
two_bytes (a ∷ b ∷ c ∷ bytes) e = absurd (omega arith)

pub three_bytes : (bytes : List ℕ) → length bytes ≡ 3
    → (slice_index bytes 0 * 256 + slice_index bytes 1) * 256 + slice_index bytes 2 ≡ value 0 bytes
three_bytes [] e = absurd (omega arith)
three_bytes (a ∷ []) e = absurd (omega arith)
three_bytes (a ∷ b ∷ []) e = absurd (omega arith)
three_bytes (a ∷ b ∷ c ∷ []) e = omega arith
three_bytes (a ∷ b ∷ c ∷ d ∷ bytes) e = absurd (omega arith)
