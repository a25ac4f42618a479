-- Half a byte at a time: four bits of the message move the register up by four and take off an entry of the table, chosen
-- by the register's top four bits and the message's.
use Rattle.std.proofs.Common.{◌≡◌, ℕ, zero, suc, ◌*◌, ◌/◌, ◌%◌, ◌^◌, ◌<◌, Bool, true, false, cond, ◌&&◌, eqb, ◌++◌, get_or, zero-add, sym, refl, ap, ◌∙◌, ap₂, mod-eq_of_lt, div-add-mod', arith}
use mathlib.Core.Bool.{xor}
use lib.Bits.{bit_xor, xor_shifted, xor_comm}
use Rattle.std.proofs.lemmas.Bool.{lt-leb, eqb-true}
use Rattle.crc.specs.Sum.{step, shifted, after_bits, bits}
use Rattle.std.proofs.lemmas.List.FromFn.{get_or-map-range_with_len}
use Rattle.crc.specs.Table.{multiple, multiples}
use Rattle.crc.proofs.Below.{all_below, from_all}
use Rattle.crc.proofs.Runs.{change, difference_evolves_by_change, after_append}

-- ---- the part of the register below its top four bits only moves up

step_small : (r : ℕ) → r < 0x8000 → step r false ≡ r * 2
unfolding step xor
step_small r h = ap (λ t. cond (xor t false) (bit_xor (shifted r) 0x1021) (shifted r)) (lt-leb 0x8000 r h) ∙ mod-eq_of_lt (omega arith)

low_moves : (r : ℕ) → r < 0x1000 → after_bits r (bits 4 0) ≡ r * 16
low_moves r h =
    ap (λ n. step (step (step n false) false) false) (step_small r (omega arith))
    ∙ ap (λ n. step (step n false) false) (step_small (r * 2) (omega arith))
    ∙ ap (λ n. step n false) (step_small (r * 2 * 2) (omega arith))
    ∙ step_small (r * 2 * 2 * 2) (omega arith)
    ∙ (let e : r * 2 * 2 * 2 * 2 ≡ r * 16 = omega arith in e)

-- ---- the top four bits and the message's four: one test over all of them

met : ℕ → ℕ → Bool
met h n = eqb (after_bits (h * 0x1000) (bits 4 n)) (multiple (bit_xor h n))

all_met : all_below (λ h. all_below (met h) 16) 16 ≡ true
unfolding all_below met step xor
all_met = refl

-- an entry of the code's table
pub table_entry : (i : ℕ) → i < 16 → get_or multiples i 0 ≡ multiple i
table_entry i h = get_or-map-range_with_len multiple 0 16 i i 0 h (zero-add i)

high_meets : (h n : ℕ) → h < 16 → n < 16 → after_bits (h * 0x1000) (bits 4 n) ≡ multiple (bit_xor h n)
unfolding met
high_meets h n lh ln =
    eqb-true (after_bits (h * 0x1000) (bits 4 n)) (multiple (bit_xor h n))
    (from_all (met h) 16 (from_all (λ h. all_below (met h) 16) 16 all_met h lh) n ln)

xor_false_r : (b : Bool) → xor b false ≡ b
unfolding xor
xor_false_r true = refl
xor_false_r false = refl

change_none : (n : ℕ) → change (bits 4 n) (bits 4 0) ≡ bits 4 n
change_none n = simp xor_false_r

-- four bits more
pub half_byte : (r n : ℕ) → r < 0x10000 → n < 16 → after_bits r (bits 4 n) ≡ bit_xor (r * 16 % 0x10000) (multiple (bit_xor (r / 0x1000) n))
half_byte r n hr hn =
    let split : bit_xor (r / 0x1000 * 2 ^ 12) (r % 0x1000) ≡ r = xor_shifted (r / 0x1000) 12 (r % 0x1000) (omega arith) ∙ div-add-mod' r 0x1000 in
    ap (λ x. after_bits x (bits 4 n)) (sym split)
    ∙ ap (after_bits (bit_xor (r / 0x1000 * 0x1000) (r % 0x1000))) (sym (change_none n))
    ∙ sym (difference_evolves_by_change (r / 0x1000 * 0x1000) (r % 0x1000) (bits 4 n) (bits 4 0) (omega arith) (omega arith) refl)
    ∙ ap₂ bit_xor (high_meets (r / 0x1000) n (omega arith) hn) (low_moves (r % 0x1000) (omega arith))
    ∙ xor_comm (multiple (bit_xor (r / 0x1000) n)) (r % 0x1000 * 16)
    ∙ ap (λ x. bit_xor x (multiple (bit_xor (r / 0x1000) n))) (let e : r % 0x1000 * 16 ≡ r * 16 % 0x10000 = omega arith in e)

-- a byte is its two halves, the high one first
pub byte_halves : (b : ℕ) → bits 8 b ≡ bits 4 (b / 16) ++ bits 4 (b % 16)
byte_halves b =
    let b7 : b / 128 % 2 ≡ b / 16 / 8 % 2 = omega arith in
    let b6 : b / 64 % 2 ≡ b / 16 / 4 % 2 = omega arith in
    let b5 : b / 32 % 2 ≡ b / 16 / 2 % 2 = omega arith in
    let b4 : b / 16 % 2 ≡ b / 16 / 1 % 2 = omega arith in
    let b3 : b / 8 % 2 ≡ b % 16 / 8 % 2 = omega arith in
    let b2 : b / 4 % 2 ≡ b % 16 / 4 % 2 = omega arith in
    let b1 : b / 2 % 2 ≡ b % 16 / 2 % 2 = omega arith in
    let b0 : b / 1 % 2 ≡ b % 16 / 1 % 2 = omega arith in
    cc

pub whole_byte : (r b : ℕ) → after_bits r (bits 8 b) ≡ after_bits (after_bits r (bits 4 (b / 16))) (bits 4 (b % 16))
whole_byte r b = ap (after_bits r) (byte_halves b) ∙ after_append r (bits 4 (b / 16)) (bits 4 (b % 16))
