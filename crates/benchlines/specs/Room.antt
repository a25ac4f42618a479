-- Text added to a buffer, and the room for it.
use Rattle.std.specs.Prelude.{◌≡◌, ℕ, ◌+◌, ◌≤◌, List, ◌++◌, length, Vec, vec_items, vec_len, vec_capacity}

-- A buffer has room for so many more bytes.
abbrev pub HasRoom : {A : Type 0} → Vec ℕ A → ℕ → Type 0
HasRoom buffer n = vec_len buffer + n ≤ vec_capacity buffer

-- A text was added to a buffer, which lost no room but what the text takes.
pub record Added {A : Type 0} (was : Vec ℕ A) (text : List ℕ) (now : Vec ℕ A) : Type 0 where
  pub items : vec_items now ≡ vec_items was ++ text
  pub len : vec_len now ≡ vec_len was + length text
  pub capacity : vec_capacity was ≤ vec_capacity now
