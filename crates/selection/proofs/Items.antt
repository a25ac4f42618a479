-- What a change of the room does to the bytes held in it.
use Rattle.std.proofs.Common.{◌≡◌, ℕ, ◌+◌, ◌-◌, ◌<◌, ◌≤◌, min, cond, ltb, ◌⊎◌, List, [], ◌∷◌, ◌++◌, length, get_or, take, drop, set, sym, ap, ◌∙◌, inl, inr, arith}
use Rattle.std.proofs.lemmas.List.{length-take, length-drop, length-append, take_more, take_more_set, take-append-drop, take_at, take_all, set_at, set-append_left, drop_all, append-nil}
use Rattle.std.proofs.lemmas.Bool.{cond-true, cond-false, lt-ltb, le-ltb, cases_lt}

pub all_held : (n : ℕ) (xs : List ℕ) → length xs ≡ 69 → 69 ≤ n → 69 ≡ length (take n xs)
all_held n xs l h = sym (length-take n xs ∙ (omega arith))

pub pushed : (n b : ℕ) (xs : List ℕ) → length xs ≡ 69 → n < 69
    → take (n + 1) (set xs n b) ≡ cond (ltb (length (take n xs)) 69) (take n xs ++ (b ∷ [])) (take n xs)
pushed n b xs l h =
    take_more_set xs n b (omega arith)
    ∙ sym (cond-true (ltb (length (take n xs)) 69) _ _ (lt-ltb _ 69 (simp length-take (omega arith))))

pub no_room : (n b : ℕ) (xs : List ℕ) → length xs ≡ 69 → 69 ≤ n
    → take n xs ≡ cond (ltb (length (take n xs)) 69) (take n xs ++ (b ∷ [])) (take n xs)
no_room n b xs l h = sym (cond-false (ltb (length (take n xs)) 69) _ _ (le-ltb _ 69 (simp length-take (omega arith))))

-- the part that is lent
pub lent : (n m : ℕ) (xs : List ℕ) → m ≡ length (take n xs) → take (m - 0) xs ≡ take n xs
lent n m xs e =
    ap (take (m - 0)) (sym (take-append-drop n xs)) ∙ take_at (take n xs) (drop n xs) (m - 0) (omega arith)

-- the held part turned by one, and its last place set
turned : (b : ℕ) (p : List ℕ) (m : ℕ) → m ≡ length p → (m ≡ 0 → ⊥) → set (drop 1 p ++ take 1 p) (m - 1) b ≡ drop 1 p ++ (b ∷ [])
turned b p m e some =
    ap (λ w. set (drop 1 p ++ w) (m - 1) b) (take_more p 0 0 (omega arith))
    ∙ set_at (drop 1 p) (get_or p 0 0) [] b (m - 1) (length-drop 1 p ∙ (let k : length p - 1 ≡ m - 1 = omega arith in k))

front : (n : ℕ) (q post : List ℕ) → (length q ≡ n) ⊎ ((length q ≤ n) × (post ≡ [])) → take n (q ++ post) ≡ q
front n q post (inl e) = take_at q post n e
front n q post (inr (h, none)) = ap (λ w. take n (q ++ w)) none ∙ take_all n (q ++ []) (simp length-append (omega arith)) ∙ append-nil q

pub replaced : (n m b : ℕ) (xs part : List ℕ) → length xs ≡ 69 → m ≡ length (take n xs) → (m ≡ 0 → ⊥)
    → part ≡ drop 1 (take (m - 0) xs) ++ take 1 (take (m - 0) xs)
    → take n (set (part ++ drop (m - 0) xs) (m - 1) b) ≡ drop 1 (take n xs) ++ (b ∷ [])
replaced n m b xs part l e some rot =
    let p : List ℕ = take n xs in
    let is : part ≡ drop 1 (take n xs) ++ take 1 (take n xs) = rot ∙ ap (λ w. drop 1 w ++ take 1 w) (lent n m xs e) in
    let lp : length part ≡ m = ap length is ∙ simp (length-append, length-drop, length-take) (omega (arith, length-take n xs)) in
    let lm : m ≡ min n 69 = e ∙ length-take n xs ∙ ap (min n) l in
    ap (take n) (set-append_left part (drop (m - 0) xs) (m - 1) b (omega arith)
    ∙ ap (λ w. set w (m - 1) b ++ drop (m - 0) xs) is
    ∙ ap (λ w. w ++ drop (m - 0) xs) (turned b (take n xs) m e some))
    ∙ front n (drop 1 (take n xs) ++ (b ∷ [])) (drop (m - 0) xs)
    (elim (cases_lt n 69) [
      | inl low ↦ inl (simp (length-append, length-drop, length-take) (omega arith))
      | inr high ↦ inr (simp (length-append, length-drop, length-take) (omega arith), drop_all (m - 0) xs (omega arith))
    ])
