-- Lasting cells lie in a lent buffer of N bytes, which are the working image and the kept image at once.
use Rattle.std.specs.Prelude.{ℕ, ◌*◌, List, length, take, drop}
use Rattle.cells.specs.Images.{Images}
use Rattle.cells.specs.Sizes.{pages_for}

-- the size of the image
abbrev pub size_in : List ℕ → ℕ
size_in buffer = 64 * pages_for (length buffer)

abbrev pub twice : List ℕ → Images
twice image = record { working = image; kept = image }

-- the two images of a buffer
unfoldable pub whole : List ℕ → Images
whole buffer = twice (take (size_in buffer) buffer)

-- What lies behind the images: nothing, or the whole buffer if their size is 0.
unfoldable pub behind : List ℕ → List ℕ
behind buffer = drop (size_in buffer) buffer
