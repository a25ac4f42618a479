-- The rule of the code's table of digits.
use Rattle.std.proofs.Common.{◌≡◌, ℕ, ◌<◌, Bool, true, false, cond, ltb, List, map, get_or, Option, Some, None, Ok, Err, refl, ap, ◌∙◌, zero-add}
use Rattle.std.proofs.lemmas.List.FromFn.{get_or-map-range_with_len}
use Rattle.std.specs.List.{range_with_len}
use Rattle.std.specs.Option.{ok_or}
use Rattle.fields.specs.declared.Unreadable.{Unreadable}
use Rattle.fields.specs.Fields.{digit_value, hexadecimal}

-- a character's worth, where it is a digit
unfoldable pub digit_of : ℕ → Option ℕ
digit_of c = cond (ltb (digit_value c) 16) (Some (digit_value c)) None

abbrev pub digits_of_all : List (Option ℕ)
digits_of_all = map digit_of (range_with_len 0 256)

or_why : (b : Bool) (v : ℕ) (why : Unreadable) → ok_or (cond b (Some v) None) why ≡ cond b (Ok v) (Err why)
or_why true v why = refl
or_why false v why = refl

pub from_table : (c : ℕ) (d : Option ℕ) (why : Unreadable) → c < 256 → ok_or (get_or digits_of_all c d) why ≡ hexadecimal why c
unfolding digit_of
from_table c d why h =
    ap (λ o. ok_or o why) (get_or-map-range_with_len digit_of 0 256 c c d h (zero-add c))
    ∙ or_why (ltb (digit_value c) 16) (digit_value c) why
