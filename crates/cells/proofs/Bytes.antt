-- Bytes of any value, as a fade leaves them.
use Rattle.std.proofs.Common.{◌≡◌, ℕ, ◌<◌, List, length, get_or, inl, inr, arith}
use Rattle.std.proofs.lemmas.List.{get_or_past}
use Rattle.std.proofs.lemmas.Bool.{cases_lt}
use Rattle.cells.specs.Laws.{Bytes}

-- past the end the byte counts as 0
pub bytes : (n : ℕ) (xs : List ℕ) → length xs ≡ n → ((k : ℕ) → k < n → get_or xs k 0 < 256) → Bytes n xs
bytes n xs long small = record {
  many = long;
  small = λ k. elim (cases_lt k n) [ inl lt ↦ small k lt | inr past ↦ omega (arith, get_or_past xs k 0 (omega arith)) ];
}
