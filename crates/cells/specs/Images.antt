-- A cell array is a working image, which get reads and put writes, and a kept image, which outlasts the loss of power.
-- Both have N bytes, 64 for each page. Below stands what each call answers, and what it leaves in the two images.
use Rattle.std.specs.Prelude.{ℕ, ◌*◌, Bool, cond, List, ◌++◌, take, drop, Ok, Err, Result, nat_lt, slice_index, slice_set}

pub record Images : Type 0 where
  pub working : List ℕ
  pub kept : List ℕ

-- page p of an image: the 64 bytes from 64 × p
abbrev pub page_of : ℕ → List ℕ → List ℕ
page_of p image = take 64 (drop (64 * p) image)

-- an image whose page p is that of another image
unfoldable pub with_page : ℕ → List ℕ → List ℕ → List ℕ
with_page p other image = take (64 * p) image ++ (page_of p other ++ drop 64 (drop (64 * p) image))

-- What the calls answer. Get and put take the addresses below N, and refuse any other with 41. Keep and recall take the
-- pages of the array, and refuse any other with 42.
abbrev pub got : ℕ → ℕ → List ℕ → Result ℕ ℕ
got size a working = cond (nat_lt a size) (Ok (slice_index working a)) (Err 41)

abbrev pub address_answer : ℕ → ℕ → Result (Unit {0}) ℕ
address_answer size a = cond (nat_lt a size) (Ok tt) (Err 41)

abbrev pub page_answer : ℕ → ℕ → Result (Unit {0}) ℕ
page_answer pages p = cond (nat_lt p pages) (Ok tt) (Err 42)

-- What the calls leave in the images. A refused call changes nothing.
-- Put sets the working byte at address a, and the kept one too in a lasting array.
abbrev pub after_put : Bool → ℕ → ℕ → ℕ → Images → Images
after_put lasting size a b i =
    cond (nat_lt a size) (record { working = slice_set i.working a b; kept = cond lasting (slice_set i.kept a b) i.kept }) i

-- Keep sets page p of the kept image to that page of the working image.
abbrev pub after_keep : ℕ → ℕ → Images → Images
after_keep pages p i = cond (nat_lt p pages) (record { working = i.working; kept = with_page p i.working i.kept }) i

-- Recall sets page p of the working image to that page of the kept image.
abbrev pub after_recall : ℕ → ℕ → Images → Images
after_recall pages p i = cond (nat_lt p pages) (record { working = with_page p i.kept i.working; kept = i.kept }) i
