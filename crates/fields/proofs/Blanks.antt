-- The first character that is no blank.
use Rattle.std.proofs.Common.{◌≡◌, ◌+◌, ℕ, suc, true, false, List, [], ◌∷◌, drop, refl, ap, ◌∙◌, arith, cond}
use Rattle.std.specs.List.{prefix_len}
use Rattle.fields.specs.Fields.{blank, past_blanks}

one_more : (n : ℕ) → 1 + n ≡ suc n
one_more n = omega arith

pub drop_blanks : (text : List ℕ) → drop (prefix_len blank text) text ≡ past_blanks text
drop_blanks [] = refl
drop_blanks (c ∷ text) =
    elim (blank c) as (λ b. drop (cond b (1 + prefix_len blank text) 0) (c ∷ text) ≡ cond b (past_blanks text) (c ∷ text))
    [ true ↦ ap (λ n. drop n (c ∷ text)) (one_more (prefix_len blank text)) ∙ drop_blanks text | false ↦ refl ]
