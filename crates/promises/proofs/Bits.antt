-- The bits of numbers and of messages, as they are sent.
use Rattle.std.proofs.Common.{◌≡◌, ℕ, zero, suc, ◌+◌, ◌-◌, ◌*◌, ◌/◌, ◌%◌, ◌^◌, ◌<◌, ◌≤◌, eqb, ◌∷◌, ◌++◌, sym, refl, ap, ◌∙◌, ap₂, suc-mul, add_comm, suc-add, pow-suc, zero-add, arith}
use native.Mathlib.Nat.{div-eq_of_lt}
use Rattle.std.proofs.lemmas.Nat.{pow-add, shr-shr, field_of, mod-pow-add}
use Rattle.crc.specs.Sum.{bits, message_bits}
use Rattle.crc.specs.Transfer.{highest_first}

-- the high bits, then the low ones
pub bits_split : (m n x : ℕ) → bits (m + n) x ≡ bits m (x / 2 ^ n) ++ bits n x
bits_split zero n x = ap (λ k. bits k x) (zero-add n)
bits_split (suc m) n x =
    ap (λ k. bits k x) (suc-add m n)
    ∙ ap₂ ◌∷◌
    (ap (λ y. eqb (y % 2) 1) (ap (λ k. x / 2 ^ k) (add_comm m n) ∙ sym (shr-shr x n m)))
    (bits_split m n x)

-- a remainder by a power of two has the same low bits
bit_mod : (x i j : ℕ) → x % 2 ^ (suc i + j) / 2 ^ j % 2 ≡ x / 2 ^ j % 2
bit_mod x i j =
    ap (λ y. y % 2) (field_of x (suc i) j)
    ∙ ap (λ k. x / 2 ^ j % 2 ^ k % 2) (let e : suc i ≡ i + 1 = omega arith in e)
    ∙ ap (λ y. y % 2) (mod-pow-add (x / 2 ^ j) i 1)
    ∙ (let e : ((x / 2 ^ j) / 2 % 2 ^ i * 2 + x / 2 ^ j % 2) % 2 ≡ x / 2 ^ j % 2 = omega arith in e)

pub bits_mod : (n m x : ℕ) → n ≤ m → bits n (x % 2 ^ m) ≡ bits n x
bits_mod zero m x h = refl
bits_mod (suc n) m x h =
    ap₂ ◌∷◌
    (ap (λ y. eqb y 1)
    (ap (λ k. x % 2 ^ k / 2 ^ n % 2) (let e : m ≡ suc (m - suc n) + n = omega arith in e) ∙ bit_mod x (m - suc n) n))
    (bits_mod n m x (omega arith))

power_of_256 : (k : ℕ) → 256 ^ k ≡ 2 ^ (k * 8)
power_of_256 zero = refl
power_of_256 (suc k) =
    pow-suc 256 k ∙ ap (λ n. n * 256) (power_of_256 k) ∙ sym (pow-add 2 (k * 8) 8) ∙ ap (λ n. 2 ^ n) (sym (suc-mul k 8))

-- k bytes, highest first, have the 8 k low bits of their number
pub bytes_bits : (k x : ℕ) → message_bits (highest_first k x) ≡ bits (k * 8) x
bytes_bits zero x = refl
bytes_bits (suc k) x =
    ap₂ ◌++◌ (bits_mod 8 8 (x / 256 ^ k) (omega arith) ∙ ap (λ n. bits 8 (x / n)) (power_of_256 k)) (bytes_bits k x)
    ∙ sym (bits_split 8 (k * 8) x)
    ∙ ap (λ n. bits n x) (add_comm 8 (k * 8) ∙ sym (suc-mul k 8))

pub bytes_power : (k : ℕ) → 256 ^ k ≡ 2 ^ (k * 8)
bytes_power = power_of_256

-- a number below 2 ^ e has only its e low bits
pub small_bits : (n e x : ℕ) → e ≤ n → x < 2 ^ e → bits n x ≡ bits (n - e) 0 ++ bits e x
small_bits n e x h lt =
    ap (λ k. bits k x) (let k : n ≡ (n - e) + e = omega arith in k)
    ∙ bits_split (n - e) e x ∙ ap (λ y. bits (n - e) y ++ bits e x) (div-eq_of_lt lt)
