-- One step of the register: it stays within sixteen bits, is linear, and is one-to-one.
use Rattle.std.proofs.Common.{◌≡◌, ℕ, ◌+◌, ◌*◌, ◌/◌, ◌%◌, ◌^◌, ◌<◌, ◌≤◌, Bool, true, false, cond, sym, refl, ap, ◌∙◌, subst, ap₂, ⊎_elim, add-zero, mod-eq_of_lt, arith}
use mathlib.Core.Bool.{xor}
use lib.Bits.{bit_xor, xor_lt, xor_mod, xor_shr, xor_block, xor_assoc, xor_comm, xor_self, xor_zero_r}
use Rattle.std.proofs.lemmas.Bool.{leb-true, leb-false, le-leb, lt-leb, cases_Bool}
use Rattle.crc.specs.Sum.{polynomial, top, shifted, step}

-- ---- the register stays within sixteen bits

pub step_lt : (r : ℕ) (b : Bool) → step r b < 0x10000
unfolding step
step_lt r b =
    elim (xor (top r) b) as (λ q. cond q (bit_xor (shifted r) polynomial) (shifted r) < 0x10000)
    [ true ↦ xor_lt 16 (shifted r) polynomial (omega arith) (omega arith) | false ↦ omega arith ]

-- ---- linearity: the difference of two registers evolves by the difference of their bits alone

-- the top bit as a number
top_number : (r : ℕ) → r < 0x10000 → r / 2 ^ 15 ≡ cond (top r) 1 0
top_number r h =
    ⊎_elim
    (λ e. subst (λ t. r / 2 ^ 15 ≡ cond t 1 0) (sym e) (let l : 0x8000 ≤ r = leb-true 0x8000 r e in omega arith))
    (λ e. subst (λ t. r / 2 ^ 15 ≡ cond t 1 0) (sym e) (let l : r < 0x8000 = leb-false 0x8000 r e in omega arith))
    (cases_Bool (top r))

number_top : (r : ℕ) (t : Bool) → r < 0x10000 → r / 2 ^ 15 ≡ cond t 1 0 → top r ≡ t
number_top r true h e = le-leb 0x8000 r (omega arith)
number_top r false h e = lt-leb 0x8000 r (omega arith)

bit_xor_lem : (s t : Bool) → bit_xor (cond s 1 0) (cond t 1 0) ≡ cond (xor s t) 1 0
unfolding xor
bit_xor_lem true true = refl
bit_xor_lem true false = refl
bit_xor_lem false true = refl
bit_xor_lem false false = refl

top_xor : (a d : ℕ) → a < 0x10000 → d < 0x10000 → top (bit_xor a d) ≡ xor (top a) (top d)
top_xor a d ha hd =
    number_top (bit_xor a d) (xor (top a) (top d)) (xor_lt 16 a d ha hd)
    (xor_shr a d 15 ∙ ap₂ bit_xor (top_number a ha) (top_number d hd) ∙ bit_xor_lem (top a) (top d))

double_xor : (a d : ℕ) → bit_xor a d * 2 ≡ bit_xor (a * 2) (d * 2)
double_xor a d =
    let e : bit_xor (a * 2 + 0) (d * 2 + 0) ≡ bit_xor a d * 2 + bit_xor 0 0 = xor_block 1 a d 0 0 (omega arith) (omega arith) in
    sym (add-zero (bit_xor a d * 2)) ∙ sym e ∙ ap₂ bit_xor (add-zero (a * 2)) (add-zero (d * 2))

shifted_xor : (a d : ℕ) → shifted (bit_xor a d) ≡ bit_xor (shifted a) (shifted d)
shifted_xor a d = ap (λ n. n % 0x10000) (double_xor a d) ∙ xor_mod (a * 2) (d * 2) 16

-- x taken off where q, y taken off where p
regroup : (s p q : ℕ) → bit_xor (bit_xor s p) q ≡ bit_xor (bit_xor s q) p
regroup s p q = xor_assoc s p q ∙ ap (bit_xor s) (xor_comm p q) ∙ sym (xor_assoc s q p)

cancel : (s p : ℕ) → bit_xor (bit_xor s p) p ≡ s
cancel s p = xor_assoc s p p ∙ ap (bit_xor s) (xor_self p) ∙ xor_zero_r s

joined : (s t p : ℕ) (x y : Bool)
    → cond (xor x y) (bit_xor (bit_xor s t) p) (bit_xor s t) ≡ bit_xor (cond x (bit_xor s p) s) (cond y (bit_xor t p) t)
unfolding xor
joined s t p true true =
    sym (sym (xor_assoc (bit_xor s p) t p) ∙ regroup (bit_xor s p) t p ∙ ap (λ n. bit_xor n t) (cancel s p))
joined s t p true false = regroup s t p
joined s t p false true = xor_assoc s t p
joined s t p false false = refl

xor_four : (s t x y : Bool) → xor (xor s t) (xor x y) ≡ xor (xor s x) (xor t y)
unfolding xor
xor_four true true true true = refl
xor_four true true true false = refl
xor_four true true false true = refl
xor_four true true false false = refl
xor_four true false true true = refl
xor_four true false true false = refl
xor_four true false false true = refl
xor_four true false false false = refl
xor_four false true true true = refl
xor_four false true true false = refl
xor_four false true false true = refl
xor_four false true false false = refl
xor_four false false true true = refl
xor_four false false true false = refl
xor_four false false false true = refl
xor_four false false false false = refl

pub step_linear : (a d : ℕ) (b e : Bool) → a < 0x10000 → d < 0x10000
    → step (bit_xor a d) (xor b e) ≡ bit_xor (step a b) (step d e)
unfolding step
step_linear a d b e ha hd =
    ap₂ (λ q s. cond q (bit_xor s polynomial) s)
    (ap (λ t. xor t (xor b e)) (top_xor a d ha hd) ∙ xor_four (top a) (top d) b e)
    (shifted_xor a d)
    ∙ joined (shifted a) (shifted d) polynomial (xor (top a) b) (xor (top d) e)

-- ---- the lowest bit of the next register tells whether the polynomial was taken off, so a step can be undone

pub step_low : (r : ℕ) (b : Bool) → step r b % 2 ≡ cond (xor (top r) b) 1 0
unfolding step
step_low r b =
    elim (xor (top r) b) as (λ q. cond q (bit_xor (shifted r) polynomial) (shifted r) % 2 ≡ cond q 1 0) [
      | true ↦ xor_mod (shifted r) polynomial 1 ∙ ap (λ n. bit_xor n 1) (let z : shifted r % 2 ≡ 0 = omega arith in z)
      | false ↦ omega arith
    ]

pub xor_same : (s t : Bool) → xor s t ≡ false → s ≡ t
unfolding xor
xor_same true true e = refl
xor_same true false e = e
xor_same false true e = sym e
xor_same false false e = refl

-- where it was not, the bit was the top bit and the register only moved up
pub step_moves : (r : ℕ) (b : Bool) → step r b % 2 ≡ 0 → (top r ≡ b) × (step r b ≡ shifted r)
unfolding step
step_moves r b even = moves (xor (top r) b) refl (sym (step_low r b) ∙ even)
  where
    moves : (q : Bool) → xor (top r) b ≡ q → ◌≡◌ {A = ℕ} (cond q 1 0) 0 → (top r ≡ b) × (step r b ≡ shifted r)
    moves true e z = absurd (let n : ⊥ = omega arith in n)
    moves false e z = (xor_same (top r) b e, ap (λ q. cond q (bit_xor (shifted r) polynomial) (shifted r)) e)

-- an unchanged bit takes no difference but 0 to 0
pub step_back : (d : ℕ) → d < 0x10000 → step d false ≡ 0 → d ≡ 0
step_back d h z =
    let m = step_moves d false (ap (λ n. n % 2) z) in
    let low : d < 0x8000 = leb-false 0x8000 d m.0 in
    let whole : shifted d ≡ d * 2 = mod-eq_of_lt (omega arith) in
    let up : d * 2 ≡ 0 = sym whole ∙ sym m.1 ∙ z in
    omega arith

pub xor_cancel : (a d : ℕ) → bit_xor a d ≡ 0 → a ≡ d
xor_cancel a d z = sym (cancel a d) ∙ ap (λ n. bit_xor n d) z

pub xor_false : (b : Bool) → xor b b ≡ false
unfolding xor
xor_false true = refl
xor_false false = refl

pub step_one_to_one : (a d : ℕ) (b : Bool) → a < 0x10000 → d < 0x10000 → step a b ≡ step d b → a ≡ d
step_one_to_one a d b ha hd e =
    xor_cancel a d
    (step_back (bit_xor a d) (xor_lt 16 a d ha hd)
    (ap (step (bit_xor a d)) (sym (xor_false b)) ∙ step_linear a d b b ha hd
    ∙ ap (λ n. bit_xor n (step d b)) e ∙ xor_self (step d b)))
