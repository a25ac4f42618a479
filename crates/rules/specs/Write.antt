-- Writing: the page buffer of a paged write, and what is put when a page is accepted.
use Rattle.std.specs.Prelude.{ℕ, ◌+◌, ◌*◌, ◌/◌, ◌%◌, Bool, true, false, cond, ◌||◌, List, [], ◌∷◌, ◌++◌, length, drop, ◌==◌, nat_le}
use Rattle.rules.specs.Kind.{Kind, next_page, page_protected}
use Rattle.rules.specs.State.{Phase, writing_paged, Event, put}

-- The buffer holds the latest byte of each filled offset: of more than 64 bytes the last 64.
abbrev pub is_full : List ℕ → Bool
is_full held = nat_le 64 (length held)

abbrev pub first_held : ℕ → List ℕ → ℕ
first_held first held = cond (is_full held) ((first + 1) % 64) first

abbrev pub latest : List ℕ → ℕ → List ℕ
latest held b = cond (is_full held) (drop 1 held) held ++ (b ∷ [])

-- A page's bytes in the order of sending, from an offset on, rolling over at the page's end.
abbrev pub placed : ℕ → ℕ → List ℕ → List Event
placed page offset [] = []
placed page offset (b ∷ bs) = put (64 * page + offset % 64) b ∷ placed page (offset + 1) bs

-- Accepting a page puts its bytes, unless the page is protected.
abbrev pub accepted : Kind → ℕ → ℕ → ℕ → List ℕ → List Event
accepted k R page offset bytes = cond (page_protected k R page) [] (placed page offset bytes)

-- Offset 63 is filled by the next byte.
abbrev pub fills_page : ℕ → List ℕ → Bool
fills_page first held = (first + length held) % 64 == 63
