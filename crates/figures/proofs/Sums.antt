-- What `{:04X}` writes of a number of 16 bits.
use Rattle.std.proofs.Common.{◌≡◌, ℕ, suc, ◌-◌, ◌/◌, ◌%◌, ◌^◌, ◌<◌, ◌≤◌, true, false, eqb, List, [], ◌∷◌, ap, ◌∙◌, ⊎_elim, arith, ltb, ltb-true, ltb-false}
use Rattle.std.proofs.lemmas.Bool.{cond-true, cond-false, eq-eqb, cases_Bool}
use Rattle.std.proofs.lemmas.Fmt.{hex_one_digit, hex_two_digits}
use Rattle.std.specs.Fmt.{digits, digits_onto, padded_integral, format_spec, char_count}
use Rattle.figures.specs.Figures.{figure, sum_text}

nonzero : (n : ℕ) → 16 ≤ n → eqb (n / 16) 0 ≡ false
nonzero n h = grind arith

is_zero : (n : ℕ) → n < 16 → eqb (n / 16) 0 ≡ true
is_zero n h = eq-eqb (n / 16) 0 (omega arith)

-- one figure off the end
step : (k n : ℕ) (acc : List ℕ) → 16 ≤ n → digits_onto (suc k) 16 true n acc ≡ digits_onto k 16 true (n / 16) (figure (n % 16) ∷ acc)
step k n acc h = cond-false _ _ _ (nonzero n h)

last : (k n : ℕ) (acc : List ℕ) → n < 16 → digits_onto (suc k) 16 true n acc ≡ figure (n % 16) ∷ acc
last k n acc h = cond-true _ _ _ (is_zero n h)

three : (n : ℕ) → 256 ≤ n → n < 4096 → digits 16 true n ≡ figure (n / 256 % 16) ∷ figure (n / 16 % 16) ∷ figure (n % 16) ∷ []
unfolding digits
three n h l =
    let e : n / 16 / 16 ≡ n / 256 = omega arith in
    step 63 n [] (omega arith) ∙ step 62 (n / 16) (figure (n % 16) ∷ []) (omega arith)
    ∙ last 61 (n / 16 / 16) (figure (n / 16 % 16) ∷ figure (n % 16) ∷ []) (omega arith)
    ∙ ap (λ q. figure (q % 16) ∷ figure (n / 16 % 16) ∷ figure (n % 16) ∷ []) e

four : (n : ℕ) → 4096 ≤ n → n < 65536 → digits 16 true n ≡ sum_text n
unfolding digits
four n h l =
    let e : n / 16 / 16 ≡ n / 256 = omega arith in
    let f : n / 16 / 16 / 16 ≡ n / 4096 = omega arith in
    step 63 n [] (omega arith) ∙ step 62 (n / 16) (figure (n % 16) ∷ []) (omega arith)
    ∙ step 61 (n / 16 / 16) (figure (n / 16 % 16) ∷ figure (n % 16) ∷ []) (omega arith)
    ∙ last 60 (n / 16 / 16 / 16) (figure (n / 16 / 16 % 16) ∷ figure (n / 16 % 16) ∷ figure (n % 16) ∷ []) (omega arith)
    ∙ ap (λ q. figure (n / 16 / 16 / 16 % 16) ∷ figure (q % 16) ∷ figure (n / 16 % 16) ∷ figure (n % 16) ∷ []) e
    ∙ ap (λ q. figure (q % 16) ∷ figure (n / 256 % 16) ∷ figure (n / 16 % 16) ∷ figure (n % 16) ∷ []) f

top_is_zero : (n : ℕ) → n < 4096 → n / 4096 % 16 ≡ 0
top_is_zero n l = omega arith

next_is_zero : (n : ℕ) → n < 256 → n / 256 % 16 ≡ 0
next_is_zero n l = omega arith

one : (n : ℕ) → n < 16 → padded_integral (format_spec 32 0 4 4 (2 ^ 64 - 1)) false [] (digits 16 true n) ≡ sum_text n
unfolding padded_integral char_count
one n l =
    let c : n / 16 % 16 ≡ 0 = omega arith in
    let d : n % 16 ≡ n = omega arith in
    rw (hex_one_digit true n l, top_is_zero n (omega arith), next_is_zero n (omega arith), c, d)

two : (n : ℕ) → 16 ≤ n → n < 256 → padded_integral (format_spec 32 0 4 4 (2 ^ 64 - 1)) false [] (digits 16 true n) ≡ sum_text n
unfolding padded_integral char_count
two n h l =
    let c : n / 16 % 16 ≡ n / 16 = omega arith in
    rw (hex_two_digits true n h l, top_is_zero n (omega arith), next_is_zero n l, c)

pub four_figures : (n : ℕ) → n < 65536 → padded_integral (format_spec 32 0 4 4 (2 ^ 64 - 1)) false [] (digits 16 true n) ≡ sum_text n
unfolding padded_integral char_count
four_figures n h =
    ⊎_elim
    (λ l. one n (ltb-true n 16 l))
    (λ g. ⊎_elim
    (λ l. two n (ltb-false n 16 g) (ltb-true n 256 l))
    (λ g. ⊎_elim
    (λ l. rw (three n (ltb-false n 256 g) (ltb-true n 4096 l), top_is_zero n (ltb-true n 4096 l)))
    (λ g. rw (four n (ltb-false n 4096 g) h))
    (cases_Bool (ltb n 4096)))
    (cases_Bool (ltb n 256)))
    (cases_Bool (ltb n 16))
