-- The test of sizes is right: a number has one binary digit that is 1 exactly if it is a power of two.
use Rattle.std.proofs.Common.{◌≡◌, ℕ, ◌-◌, ◌*◌, ◌/◌, ◌^◌, ◌≤◌, true, false, leb, sym, refl, ap, ◌∙◌, inl, inr, arith}
use lib.Count.{ones}
use Rattle.std.proofs.lemmas.Nat.{pow-add, pow_below}
use Rattle.std.proofs.lemmas.Bool.{both_ways, cases_lt, le-leb, eq-eqb, leb-true, eqb-true, and_parts, and_from, cond-true, cond-false, cond_both}
use Rattle.powers.proofs.Powers.{one_bit_of_power, power_of_one_bit}
use Rattle.cells.specs.Sizes.{smallest, largest, is_size, pages_for, Size, Sized}

tested : (n : ℕ) → is_size n ≡ true → Size n
tested n t =
    let (low, rest) = and_parts (leb smallest n) _ t in
    let (high, power) = and_parts (leb n largest) _ rest in
    (power_of_one_bit n (eqb-true (ones n) 1 power), leb-true smallest n low, leb-true n largest high)

test : (n : ℕ) → Size n → is_size n ≡ true
test n ((e, power), low, high) =
    and_from (leb smallest n) _ (le-leb smallest n low)
    (and_from (leb n largest) _ (le-leb n largest high) (eq-eqb (ones n) 1 (ap ones power ∙ one_bit_of_power e)))

-- each power of two from 256 on is a multiple of 64
whole : (n : ℕ) → Size n → n ≡ 64 * (n / 64)
whole n ((e, power), low, high) =
    let enough : 6 ≤ e = elim (cases_lt e 6) [ inl less ↦ absurd (omega (arith, pow_below e 6 less)) | inr more ↦ more ] in
    let split : 2 ^ e ≡ 2 ^ (e - 6) * 2 ^ 6 = ap (λ k. 2 ^ k) (omega arith) ∙ pow-add 2 (e - 6) 6 in
    omega arith

pub sized : (n : ℕ) → is_size n ≡ true → (n ≡ 64 * pages_for n) × Sized n n
sized n t = (
  whole n (tested n t) ∙ ap (λ p. 64 * p) (sym (cond-true (is_size n) _ _ t)),
  record { whole = λ _. refl; none = λ other. absurd (other (tested n t)) },
)

pub unsized : (n : ℕ) → is_size n ≡ false → (0 ≡ 64 * pages_for n) × Sized n 0
unsized n f = (
  ap (λ p. 64 * p) (sym (cond-false (is_size n) _ _ f)),
  record { whole = λ size. absurd (both_ways (is_size n) f (test n size)); none = λ _. refl },
)

pub pages_fit : (room : ℕ) → 64 * pages_for room ≤ room
pages_fit room = cond_both (is_size room) (room / 64) 0 (λ p. 64 * p ≤ room) (λ _. omega arith) (λ _. omega arith)
