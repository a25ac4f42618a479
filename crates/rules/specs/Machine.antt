-- The machine with images: the control, its events applied to the images in order, and the byte that is driven.
use Rattle.std.specs.Prelude.{◌≡◌, ℕ, ◌+◌, ◌*◌, ◌/◌, ◌%◌, List, [], ◌∷◌, map, Some, None, Option, Result, slice_index}
use Rattle.std.specs.List.{range_with_len}
use Rattle.refusal.specs.declared.Refusal.{Refusal}
use Rattle.cells.specs.Images.{Images, after_put, after_keep, after_recall}
use Rattle.cells.specs.Laws.{Bytes}
use Rattle.crc.specs.Transfer.{page_sum}
use Rattle.dialect.specs.Facts.{Facts}
use Rattle.rules.specs.declared.Call.{Call}
use Rattle.rules.specs.Kind.{Kind, pages}
use Rattle.rules.specs.State.{State, Event, put, keep, recall, fade, Drive, undriven, status, cell, sum_high, sum_low}
use Rattle.rules.specs.Step.{Out, step}

-- What an event does to the images. A fade leaves the kept image, and any bytes in the working image.
abbrev pub Changed : Kind → Event → Images → Images → Type 0
Changed k (put a b) i j = j ≡ after_put k.lasting k.size a b i
Changed k (keep p) i j = j ≡ after_keep (pages k) p i
Changed k (recall p) i j = j ≡ after_recall (pages k) p i
Changed k fade i j = (j.kept ≡ i.kept) × Bytes (64 * pages k) j.working

-- events in their order
abbrev pub Changes : Kind → List Event → Images → Images → Type 0
Changes k [] i j = j ≡ i
Changes k (e ∷ es) i j = (m : Images) × (Changed k e i m × Changes k es m j)

-- byte i of the page of an address, counted from that address and rolling over in the page
abbrev pub rolled : ℕ → List ℕ → ℕ → ℕ
rolled a working i = slice_index working (64 * (a / 64) + (a % 64 + i) % 64)

-- the sum that a secure read sends: of its page transfer, from its address
abbrev pub secure_sum : Kind → List ℕ → ℕ → ℕ
secure_sum k working a = page_sum k.facts.address_bytes k.size a (map (rolled a working) (range_with_len 0 64))

-- The byte that is driven, or none where the line is not driven.
abbrev pub driven : Kind → List ℕ → Drive → Option ℕ
driven k working undriven = None
driven k working (status byte) = Some byte
driven k working (cell a) = Some (slice_index working a)
driven k working (sum_high a) = Some (secure_sum k working a / 256)
driven k working (sum_low a) = Some (secure_sum k working a % 256)

-- a call with what came of it: its answer, the byte driven, and the images behind it
pub record Moment : Type 0 where
  pub call : Call
  pub answer : Result ℕ Refusal
  pub drove : Option ℕ
  pub images : Images

-- The machine's rules for one call, from a control state and images: refused or done, all is an equation but the working
-- image behind a fade.
pub record Obeys (k : Kind) (s : State) (i : Images) (m : Moment) : Type 0 where
  pub answer : m.answer ≡ (step k s m.call).answer
  pub drove : m.drove ≡ driven k i.working (step k s m.call).drive
  pub images : Changes k (step k s m.call).events i m.images
