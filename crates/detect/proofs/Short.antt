-- A change of at most 16 successive bits never takes the register back to where it would have been.
use Rattle.std.proofs.Common.{◌≡◌, ℕ, suc, ◌+◌, ◌-◌, ◌*◌, ◌/◌, ◌%◌, ◌^◌, ◌<◌, ◌≤◌, Bool, List, [], ◌∷◌, ◌++◌, length, sym, refl, ap, ◌∙◌, subst, ap₂, mul_assoc, add-mul, pow-suc, zero-add, zero-mul, arith, pow-add}
use mathlib.Core.Bool.{xor}
use native.Mathlib.Nat.{suc_inj}
use Rattle.crc.specs.Sum.{step, shifted, after_bits}
use Rattle.crc.proofs.Step.{step_moves, xor_same}
use Rattle.crc.proofs.Runs.{after_append, after_lt, after_one_to_one, change, unseen_then_zero}

-- n is a multiple of 2 ^ j
abbrev Multiple : ℕ → ℕ → Type 0
Multiple n j = (q : ℕ) × (n ≡ q * 2 ^ j)

doubled : (n j : ℕ) → (m : Multiple n (suc j)) → n ≡ m.0 * 2 ^ j * 2
doubled n j m = m.1 ∙ ap (λ p. m.0 * p) (pow-suc 2 j) ∙ sym (mul_assoc m.0 (2 ^ j) 2)

even : (n j : ℕ) → Multiple n (suc j) → n % 2 ≡ 0
even n j m = let e : n ≡ m.0 * 2 ^ j * 2 = doubled n j m in omega arith

-- Stepping back: where the next register is a multiple of 2 ^ suc j, its lowest bit is 0, so the register only moved up,
-- and was a multiple of 2 ^ j itself.
multiple_back : (d : ℕ) (b : Bool) (j : ℕ) → j ≤ 15 → Multiple (step d b) (suc j) → Multiple d j
multiple_back d b j l m =
    let e : step d b ≡ m.0 * 2 ^ j * 2 = doubled (step d b) j m in
    let up : step d b ≡ shifted d = (step_moves d b (even (step d b) j m)).1 in
    let t : ℕ = d * 2 / 0x10000 in
    let whole : 0x8000 ≡ 2 ^ (15 - j) * 2 ^ j =
    ap (λ n. 2 ^ n) (let k : 15 ≡ 15 - j + j = omega arith in k) ∙ pow-add 2 (15 - j) j in
    let sum : d ≡ t * 0x8000 + m.0 * 2 ^ j = omega arith in (
      t * 2 ^ (15 - j) + m.0,
      sum
          ∙ ap (λ n. n + m.0 * 2 ^ j) (ap (λ n. t * n) whole ∙ sym (mul_assoc t (2 ^ (15 - j)) (2 ^ j)))
          ∙ sym (add-mul (t * 2 ^ (15 - j)) m.0 (2 ^ j)),
    )

-- back through a whole window
multiple_before : (d : ℕ) (w : List Bool) (j : ℕ) → length w + j ≤ 16 → Multiple (after_bits d w) (length w + j) → Multiple d j
multiple_before d [] j l m = subst (Multiple d) (zero-add j) m
multiple_before d (b ∷ w) j l m =
    multiple_back d b j (omega arith)
    (multiple_before (step d b) w (suc j) (omega arith)
    (subst (Multiple (after_bits (step d b) w)) (let e : suc (length w) + j ≡ length w + suc j = omega arith in e) m))

length_change : (v w : List Bool) → length v ≡ length w → length (change v w) ≡ length v
length_change [] w e = refl
length_change (b ∷ v) [] e = absurd (let n : ⊥ = omega arith in n)
length_change (b ∷ v) (c ∷ w) e = ap suc (length_change v w (suc_inj e))

-- a change of at most 16 bits that takes 0 to 0 changes nothing
no_change : (v w : List Bool) → length v ≡ length w → length v ≤ 16 → after_bits 0 (change v w) ≡ 0 → v ≡ w
no_change [] [] e l z = refl
no_change [] (c ∷ w) e l z = absurd (let n : ⊥ = omega arith in n)
no_change (b ∷ v) [] e l z = absurd (let n : ⊥ = omega arith in n)
no_change (b ∷ v) (c ∷ w) e l z =
    let d : ℕ = step 0 (xor b c) in
    let n : length (change v w) ≡ length v = length_change v w (suc_inj e) in
    let m = multiple_before d (change v w) 1 (omega arith) (0, z ∙ sym (zero-mul (2 ^ (length (change v w) + 1)))) in
    let moved = step_moves 0 (xor b c) (even d 0 m) in
    ap₂ ◌∷◌ (xor_same b c (sym moved.0))
    (no_change v w (suc_inj e) (omega arith) (ap (λ r. after_bits r (change v w)) (sym moved.1) ∙ z))

-- The burst law, of bits: two lists that differ only in a window of at most 16 bits leave the register different,
-- wherever it started and whatever came before and comes behind.
pub burst_shows : (r : ℕ) (before was became behind : List Bool) → r < 0x10000
    → length was ≡ length became → length was ≤ 16
    → after_bits r (before ++ (was ++ behind)) ≡ after_bits r (before ++ (became ++ behind)) → was ≡ became
burst_shows r before was became behind h e l same =
    let d : ℕ = after_bits r before in
    let hd : d < 0x10000 = after_lt r before h in
    let window : (w : List Bool) → after_bits r (before ++ (w ++ behind)) ≡ after_bits (after_bits d w) behind =
    λ w. after_append r before (w ++ behind) ∙ after_append d w behind in
    no_change was became e l
    (unseen_then_zero d was became hd e
    (after_one_to_one (after_bits d was) (after_bits d became) behind (after_lt d was hd) (after_lt d became hd)
    (sym (window was) ∙ same ∙ window became)))
