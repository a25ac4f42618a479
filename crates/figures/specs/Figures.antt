-- Numbers as upper-case hexadecimal figures.
use Rattle.std.specs.Prelude.{cond, List, [], ◌∷◌, ℕ, ◌+◌, ◌/◌, ◌%◌, ltb}

-- the figure of a number below 16: 0 to 9, then A to F
abbrev pub figure : ℕ → ℕ
figure d = cond (ltb d 10) (48 + d) (55 + d)

-- a byte as two figures
abbrev pub byte_figures : ℕ → List ℕ
byte_figures b = figure (b / 16) ∷ figure (b % 16) ∷ []

-- a sum, a number of 16 bits, as four figures
abbrev pub sum_text : ℕ → List ℕ
sum_text sum = figure (sum / 4096 % 16) ∷ figure (sum / 256 % 16) ∷ figure (sum / 16 % 16) ∷ figure (sum % 16) ∷ []
