-- The message that a vector stands for.
use Rattle.std.specs.Prelude.{ℕ, zero, suc, ◌+◌, ◌%◌, List, [], ◌∷◌, ◌++◌}
use Rattle.vectors.specs.declared.Vector.{Vector}

-- so many bytes that begin with the first and grow by a step
abbrev pub growing : ℕ → ℕ → ℕ → List ℕ
growing first step zero = []
growing first step (suc n) = first ∷ growing ((first + step) % 256) step n

unfoldable pub message : Vector → List ℕ
message v = v.front.now ++ growing v.first v.step v.count
