-- Shadowed cells lie in a lent buffer of 2 × N bytes: first the working image, then the kept image.
use Rattle.std.specs.Prelude.{◌≡◌, ℕ, ◌*◌, ◌/◌, ◌%◌, cond, List, length, take, drop, ◌==◌}
use Rattle.cells.specs.Images.{Images}
use Rattle.cells.specs.Sizes.{pages_for}

-- the pages of each image in a buffer of n bytes: half of an even length is their room, and an odd length has none
abbrev pub pages_in : ℕ → ℕ
pages_in n = pages_for (cond (n % 2 == 0) (n / 2) 0)

-- the size of each image
abbrev pub size_in : List ℕ → ℕ
size_in buffer = 64 * pages_in (length buffer)

-- the two images of a buffer
unfoldable pub halves : List ℕ → Images
halves buffer = record {
  working = take (size_in buffer) buffer;
  kept = take (size_in buffer) (drop (size_in buffer) buffer);
}

-- What lies behind the images: nothing, or the whole buffer if their size is 0.
unfoldable pub behind : List ℕ → List ℕ
behind buffer = drop (size_in buffer) (drop (size_in buffer) buffer)

-- what a call leaves in the buffer: these images, and the rest as it was
pub record Left (before after : List ℕ) (left : Images) : Type 0 where
  pub images : halves after ≡ left
  pub behind : behind after ≡ behind before
