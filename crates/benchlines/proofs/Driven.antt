-- What was driven, one byte more.
use Rattle.std.proofs.Common.{◌≡◌, ℕ, ◌+◌, ◌<◌, List, [], ◌∷◌, ◌++◌, length, get_or, take, Vec, vec_items, Some, None, Option, sym, refl, ap, ◌∙◌, append_assoc, append-nil, length-append, arith}
use Rattle.std.proofs.lemmas.List.{take_more}
use Rattle.benchlines.specs.Lines.{driven_text, all_driven_text}
use Rattle.benchlines.specs.Room.{Added}

driven_on : (xs ys : List (Option ℕ)) → all_driven_text (xs ++ ys) ≡ all_driven_text xs ++ all_driven_text ys
driven_on [] ys = refl
driven_on (x ∷ xs) ys = ap (λ (l : List ℕ). driven_text x ++ l) (driven_on xs ys) ∙ sym (append_assoc (driven_text x) (all_driven_text xs) (all_driven_text ys))

pub driven_more : (driven : List (Option ℕ)) (i : ℕ) (d : Option ℕ) → i < length driven → d ≡ get_or driven i d
    → all_driven_text (take (i + 1) driven) ≡ all_driven_text (take i driven) ++ driven_text d
driven_more driven i d lt is =
    ap all_driven_text (take_more driven i d lt) ∙ driven_on (take i driven) (get_or driven i d ∷ [])
    ∙ ap (λ (l : List ℕ). all_driven_text (take i driven) ++ l) (append-nil (driven_text (get_or driven i d)) ∙ ap driven_text (sym is))

pub driven_long : (d : Option ℕ) → length (driven_text d) ≡ 3
driven_long None = refl
driven_long (Some b) = refl

-- one text behind another
pub added_on : {A : Type 0} {u v w : Vec ℕ A} {a b : List ℕ} → Added u a v → Added v b w → Added u (a ++ b) w
added_on {u = u} {a = a} {b = b} p q = record {
  items = q.items ∙ ap (λ (l : List ℕ). l ++ b) p.items ∙ append_assoc (vec_items u) a b;
  len = omega (arith, length-append a b);
  capacity = omega arith;
}
