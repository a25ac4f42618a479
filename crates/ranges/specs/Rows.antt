-- How a table of protected ranges is cut into rows: the status bits R that protect the same range stand in one row.
use Rattle.std.specs.Prelude.{◌≡◌, ℕ, ◌<◌}
use Rattle.dialect.specs.Facts.{Facts, Within}

-- In an array of N bytes, R is within the mask and protects the range that Q protects.
pub record Shares (f : Facts) (N Q R : ℕ) : Type 0 where
  pub within : Within f R
  pub same : f.range R N ≡ f.range Q N

-- Q opens a row: it is within the mask, and no smaller R protects its range.
pub record Opens (f : Facts) (N Q : ℕ) : Type 0 where
  pub within : Within f Q
  pub smallest : (R : ℕ) → R < Q → Shares f N Q R → ⊥
