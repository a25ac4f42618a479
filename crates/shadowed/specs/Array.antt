-- A shadowed array is a buffer of two halves, and keeps the law of cell arrays whatever the buffer is.
use Rattle.std.specs.Prelude.{◌≡◌, ℕ, ◌+◌, ◌/◌, ◌%◌, ◌≤◌, cond, List, length, ◌==◌}
use Rattle.std.proofs.Common.{arith, length-take, length-drop}
use Rattle.std.proofs.lemmas.Bool.{cond_both}
use Rattle.cells.specs.Laws.{Site, Lawful}
use Rattle.cells.proofs.Powers.{pages_fit}
use Rattle.shadowed.specs.declared.Shadowed.{Shadowed}
use Rattle.shadowed.specs.Halves.{pages_in, size_in, halves, behind}

abbrev pub site_of : Shadowed → Site
site_of s = record { pages = pages_in (length s.bytes.now); memory = s.bytes.ghost_name; beside = behind s.bytes.now }

-- The law's proof is asked for with the array's meaning, so it stands here: both images fit in the buffer.
pub fits : (b : List ℕ) → size_in b + size_in b ≤ length b
fits b =
    let n = length b in
    let room = cond (n % 2 == 0) (n / 2) 0 in
    let half : room + room ≤ n = cond_both (n % 2 == 0) (n / 2) 0 (λ r. r + r ≤ n) (λ _. omega arith) (λ _. omega arith) in
    omega (arith, pages_fit room)

pub long : (b : List ℕ) → (length (halves b).working ≡ size_in b) × (length (halves b).kept ≡ size_in b)
unfolding halves
long b = let h = fits b in (simp length-take (omega arith), simp (length-take, length-drop) (omega arith))

pub lawful : Lawful (λ (s : Shadowed). halves s.bytes.now) site_of
lawful = record { working = λ s. (long s.bytes.now).0; kept = λ s. (long s.bytes.now).1 }
