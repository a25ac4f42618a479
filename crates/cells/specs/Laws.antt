-- What holds of every cell array, and what no call changes.
use Rattle.std.specs.Prelude.{◌≡◌, ℕ, ◌*◌, ◌<◌, List, length, slice_index}
use Rattle.std.specs.Borrow.{GName}
use Rattle.cells.specs.Images.{Images}

-- Where an array stands: how many pages it has, in which lent memory its images lie, and what that memory holds beside
-- them. No call changes any of it.
pub record Site : Type 0 where
  pub pages : ℕ
  pub memory : GName
  pub beside : List ℕ

-- the size N in bytes: a multiple of 64, or 0
abbrev pub size_of : Site → ℕ
size_of site = 64 * site.pages

-- Both images have N bytes.
pub record Lawful {S : Type 0} (images : S → Images) (site : S → Site) : Type 0 where
  pub working : (s : S) → length (images s).working ≡ size_of (site s)
  pub kept : (s : S) → length (images s).kept ≡ size_of (site s)

-- n bytes of any value
pub record Bytes (n : ℕ) (xs : List ℕ) : Type 0 where
  pub many : length xs ≡ n
  pub small : (k : ℕ) → slice_index xs k < 256
