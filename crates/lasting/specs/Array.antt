-- A lasting array is a buffer that is both images, and keeps the law of cell arrays whatever the buffer is.
use Rattle.std.specs.Prelude.{◌≡◌, ℕ, List, length}
use Rattle.std.proofs.Common.{length-take-le}
use Rattle.cells.specs.Laws.{Site, Lawful}
use Rattle.cells.specs.Sizes.{pages_for}
use Rattle.cells.proofs.Powers.{pages_fit}
use Rattle.lasting.specs.declared.Lasting.{Lasting}
use Rattle.lasting.specs.Whole.{size_in, whole, behind}

abbrev pub site_of : Lasting → Site
site_of s = record { pages = pages_for (length s.bytes.now); memory = s.bytes.ghost_name; beside = behind s.bytes.now }

-- The law's proof is asked for with the array's meaning, so it stands here.
pub long : (b : List ℕ) → length (whole b).working ≡ size_in b
unfolding whole
long b = length-take-le (size_in b) b (pages_fit (length b))

pub lawful : Lawful (λ (s : Lasting). whole s.bytes.now) site_of
unfolding whole
lawful = record { working = λ s. long s.bytes.now; kept = λ s. long s.bytes.now }
