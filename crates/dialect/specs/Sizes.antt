-- The sizes at which a part is alive: powers of two.
-- Assumes nothing.
use Rattle.std.proofs.Common.{⊎_elim, ap, sym, ◌∙◌, arith}
use Rattle.std.specs.Prelude.{◌≡◌, ℕ, ◌+◌, ◌-◌, ◌*◌, ◌%◌, ◌^◌, ◌<◌, ◌≤◌}
use Rattle.std.proofs.lemmas.Nat.{pow-add, pow_below}
use Rattle.std.proofs.lemmas.Bool.{cases_lt}
use Rattle.dialect.specs.Facts.{Facts, Alive}

-- such a size is a whole number of 256s
pub whole_256s : {f : Facts} {N : ℕ} → Alive f N → N % 256 ≡ 0
whole_256s {f} {N} alive =
    let k = alive.exponent in
    ⊎_elim (λ (small : k < 8). absurd (omega (arith, pow_below k 8 small)))
    (λ (large : 8 ≤ k).
    let split : (k - 8) + 8 ≡ k = omega arith in
    let e : 2 ^ k ≡ 2 ^ (k - 8) * 256 = ap (λ (n : ℕ). 2 ^ n) (sym split) ∙ pow-add 2 (k - 8) 8 in
    omega (arith, e)) (cases_lt k 8)
