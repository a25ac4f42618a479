-- A number has one binary digit that is 1 exactly if it is a power of two.
use Rattle.std.proofs.Common.{◌≡◌, ℕ, ◌+◌, ◌%◌, ◌^◌, ◌<◌, ◌≤◌, refl, ap, ◌∙◌, ⊎_elim, arith}
use lib.Arith.{bin_ind}
use lib.Count.{ones, ones_in, ones_step, ones_cat}
use Rattle.std.proofs.lemmas.Nat.{pow-add, pow_pos}
use Rattle.std.proofs.lemmas.Bool.{cases_lt}

pub one_bit_of_power : (k : ℕ) → ones (2 ^ k) ≡ 1
unfolding ones ones_in
one_bit_of_power k = ap ones (omega arith) ∙ ones_cat k 1 0 (pow_pos k)

abbrev FewBits : ℕ → Type 0
FewBits n = (ones n ≡ 0 → n ≡ 0) × (ones n ≡ 1 → (k : ℕ) × (n ≡ 2 ^ k))

few_bits : (n : ℕ) → FewBits n
unfolding ones ones_in
few_bits =
    bin_ind FewBits ((λ _. refl), (λ (one : ◌≡◌ {A = ℕ} 0 1). absurd (omega arith)))
    (λ n half. (
      (λ none. omega (arith, ones_step n, half.0 (omega (arith, ones_step n)))),
      (λ one.
          ⊎_elim
          (λ (even : n % 2 < 1).
          let (k, e) = half.1 (omega (arith, ones_step n)) in
          (k + 1, omega (arith, e, pow-add 2 k 1)))
          (λ (odd : 1 ≤ n % 2). (0, omega (arith, half.0 (omega (arith, ones_step n)))))
          (cases_lt (n % 2) 1)),
    ))

pub power_of_one_bit : (n : ℕ) → ones n ≡ 1 → (k : ℕ) × (n ≡ 2 ^ k)
power_of_one_bit n = (few_bits n).1
