-- Numbers that bytes write, modulo a size.
use Rattle.std.proofs.Common.{◌≡◌, ℕ, ◌+◌, ◌*◌, ◌/◌, ◌%◌, List, [], ◌∷◌, ◌++◌, sym, refl, ap, ◌∙◌, mul_assoc, mul_comm, add-mul, div-add-mod', arith}
use native.Mathlib.Nat.{mod-add-mod, mod-mod, add-mul-mod_self_right}
use Rattle.rules.specs.Frame.{number_behind, number}

-- 256 times a number, modulo a size, by the remainder alone
times_256 : (s n : ℕ) → n * 256 % s ≡ n % s * 256 % s
times_256 s n =
    let d : ℕ = n / s in
    let whole : n ≡ n / s * s + n % s = sym (div-add-mod' n s) in
    let regroup : (n / s * s + n % s) * 256 ≡ n % s * 256 + n / s * 256 * s =
    add-mul (n / s * s) (n % s) 256
    ∙ ap (λ x. x + n % s * 256) (mul_assoc (n / s) s 256 ∙ ap (λ x. n / s * x) (mul_comm s 256) ∙ sym (mul_assoc (n / s) 256 s))
    ∙ (let e : n / s * 256 * s + n % s * 256 ≡ n % s * 256 + n / s * 256 * s = omega arith in e) in
    ap (λ x. x * 256 % s) whole ∙ ap (λ x. x % s) regroup ∙ add-mul-mod_self_right (n % s * 256) (n / s * 256) s

pub digit_mod : (s n m b : ℕ) → n % s ≡ m % s → (n * 256 + b) % s ≡ (m * 256 + b) % s
digit_mod s n m b e =
    sym (mod-add-mod (n * 256) s b)
    ∙ ap (λ x. (x + b) % s) (times_256 s n ∙ ap (λ x. x * 256 % s) e ∙ sym (times_256 s m))
    ∙ mod-add-mod (m * 256) s b

pub mod_behind : (s n m : ℕ) (bytes : List ℕ) → n % s ≡ m % s → number_behind n bytes % s ≡ number_behind m bytes % s
mod_behind s n m [] e = e
mod_behind s n m (b ∷ bytes) e = mod_behind s (n * 256 + b) (m * 256 + b) bytes (digit_mod s n m b e)

behind_push : (n b : ℕ) (bytes : List ℕ) → number_behind n (bytes ++ (b ∷ [])) ≡ number_behind n bytes * 256 + b
behind_push n b [] = refl
behind_push n b (x ∷ bytes) = behind_push (n * 256 + x) b bytes

-- one byte more, by the remainder alone
pub number_push : (s b n : ℕ) (bytes : List ℕ) → n ≡ number bytes % s → (n * 256 + b) % s ≡ number (bytes ++ (b ∷ [])) % s
number_push s b n bytes e =
    digit_mod s n (number bytes) b (ap (λ x. x % s) e ∙ mod-mod (number bytes) s) ∙ ap (λ x. x % s) (sym (behind_push 0 b bytes))
