-- What each step of the walk answers, and what it leaves in the two images.
use Rattle.std.specs.Prelude.{◌≡◌, ℕ, ◌*◌, Bool, Ok, Result}
use Rattle.cells.specs.Images.{Images, address_answer, page_answer, after_put, after_keep, after_recall}
use Rattle.cellwalk.specs.declared.Step.{Step}
use Rattle.cellwalk.specs.declared.Step.TheVariants.{Put, Keep, Recall, Fade}

abbrev pub answer_to : ℕ → Step → Result (Unit {0}) ℕ
answer_to pages (Put at byte) = address_answer (64 * pages) at
answer_to pages (Keep page) = page_answer pages page
answer_to pages (Recall page) = page_answer pages page
answer_to pages Fade = Ok tt

abbrev pub Leaves : Bool → ℕ → Step → Images → Images → Type 0
Leaves lasting pages (Put at byte) before after = after ≡ after_put lasting (64 * pages) at byte before
Leaves lasting pages (Keep page) before after = after ≡ after_keep pages page before
Leaves lasting pages (Recall page) before after = after ≡ after_recall pages page before
Leaves lasting pages Fade before after = after.kept ≡ before.kept
