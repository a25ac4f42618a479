-- The lines of a text. A line feed ends a line, and so does the end of the text; an empty text has no lines.
use Rattle.std.specs.Prelude.{ℕ, cond, List, [], ◌∷◌, Some, None, Option, ◌==◌}
use Rattle.std.specs.Borrow.{Bor}

-- a character in front of the first line, which it begins if there is none
abbrev pub in_front : ℕ → List (List ℕ) → List (List ℕ)
in_front c [] = (c ∷ []) ∷ []
in_front c (line ∷ others) = (c ∷ line) ∷ others

abbrev pub lines : List ℕ → List (List ℕ)
lines [] = []
lines (c ∷ text) = cond (c == 10) ([] ∷ lines text) (in_front c (lines text))

-- the text up to its first line feed, and the text behind that
abbrev pub cut : List ℕ → List ℕ × List ℕ
cut [] = ([], [])
cut (c ∷ text) = cond (c == 10) ([], text) (c ∷ (cut text).0, (cut text).1)

-- the first line and the text behind it, where there is a line
abbrev pub first_line : List ℕ → Option (List ℕ × List ℕ)
first_line [] = None
first_line (c ∷ text) = Some (cut (c ∷ text))

-- what the code answers, with the texts that its references point to
abbrev pub both_seen : Option (Bor (List ℕ) × Bor (List ℕ)) → Option (List ℕ × List ℕ)
both_seen None = None
both_seen (Some (line, rest)) = Some (line.now, rest.now)
