-- Where a text is cut into its first line and the rest.
use Rattle.std.proofs.Common.{◌≡◌, ℕ, suc, ◌+◌, ◌<◌, ◌≤◌, Bool, true, false, not, cond, eqb, ltb, ltb-false, List, [], ◌∷◌, length, take, drop, Some, None, sym, refl, ap, ap₂, ◌∙◌, subst, arith}
use Rattle.std.proofs.lemmas.List.{take_all, drop_all}
use Rattle.std.proofs.lemmas.List.Quantifiers.{position-Some}
use Rattle.std.specs.List.{position, position_or_len}
use Rattle.report.specs.Lines.{cut, lines, in_front, first_line}

-- ---- the first line feed, where there is one

-- how many characters stand before it
abbrev before_feed : List ℕ → ℕ
before_feed text = position_or_len (λ c. eqb c 10) text

one_more : (n : ℕ) → 1 + n ≡ suc n
one_more n = omega arith

two_more : (n : ℕ) → 1 + n + 1 ≡ suc (n + 1)
two_more n = omega arith

cut_at_feed : (text : List ℕ) → (take (before_feed text) text, drop (before_feed text + 1) text) ≡ cut text
cut_at_feed [] = refl
cut_at_feed (c ∷ text) =
    let n : ℕ = before_feed text in
    elim (eqb c 10) as (λ feed. ◌≡◌ {A = List ℕ × List ℕ}
    (take (cond (not feed) (1 + n) 0) (c ∷ text), drop (cond (not feed) (1 + n) 0 + 1) (c ∷ text))
    (cond feed ([], text) (c ∷ (cut text).0, (cut text).1))) [
      | true ↦ refl
      | false ↦ ap₂ (λ i j. (take i (c ∷ text), drop j (c ∷ text))) (one_more n) (two_more n) ∙ ap (λ q. (c ∷ q.0, q.1)) (cut_at_feed text)
    ]

is_some : (b : Bool) (n i : ℕ) → Some i ≡ cond b (Some n) None → i ≡ n
is_some true n i e = cc
is_some false n i e = absurd (let z : ◌≡◌ {A = ℕ} 0 1 = cc in omega arith)

is_none : (b : Bool) (n : ℕ) → None ≡ cond b (Some n) None → b ≡ false
is_none true n e = absurd (let z : ◌≡◌ {A = ℕ} 0 1 = cc in omega arith)
is_none false n e = refl

pub cut_found : (text : List ℕ) (i : ℕ) → Some i ≡ position (λ c. eqb c 10) text → (take i text, drop (i + 1) text) ≡ cut text
cut_found text i e =
    ap (λ n. (take n text, drop (n + 1) text)) (is_some (ltb (before_feed text) (length text)) (before_feed text) i e) ∙ cut_at_feed text

pub cut_whole : (text : List ℕ) → None ≡ position (λ c. eqb c 10) text → (text, []) ≡ cut text
cut_whole text e =
    let past : length text ≤ before_feed text = ltb-false (before_feed text) (length text) (is_none (ltb (before_feed text) (length text)) (before_feed text) e) in
    ap₂ (λ l r. (l, r)) (sym (take_all (before_feed text) text past)) (sym (drop_all (before_feed text + 1) text (omega arith))) ∙ cut_at_feed text

pub feed_is_within : (text : List ℕ) (i : ℕ) → Some i ≡ position (λ c. eqb c 10) text → 0 < length text
feed_is_within text i e = let within = position-Some (λ c. eqb c 10) text i 0 (sym e) in omega (arith, within.0)

pub first_is_cut : (text : List ℕ) → 0 < length text → Some (cut text) ≡ first_line text
first_is_cut [] h = absurd (omega arith)
first_is_cut (c ∷ text) h = refl

-- ---- what a cut says of the text's lines

abbrev chosen : Bool → ℕ → List ℕ → List ℕ × List ℕ
chosen feed c text = cond feed ([], text) (c ∷ (cut text).0, (cut text).1)

lines_step : (c : ℕ) (text : List ℕ) → in_front c (lines text) ≡ (c ∷ (cut text).0) ∷ lines (cut text).1
    → lines (c ∷ text) ≡ (cut (c ∷ text)).0 ∷ lines (cut (c ∷ text)).1
lines_step c text e =
    elim (eqb c 10) as (λ feed. cond feed ([] ∷ lines text) (in_front c (lines text))
    ≡ (chosen feed c text).0 ∷ lines (chosen feed c text).1)
    [ true ↦ refl | false ↦ e ]

cut_lines : (c : ℕ) (text : List ℕ) → lines (c ∷ text) ≡ (cut (c ∷ text)).0 ∷ lines (cut (c ∷ text)).1
cut_lines c [] = lines_step c [] refl
cut_lines c (d ∷ text) = lines_step c (d ∷ text) (ap (in_front c) (cut_lines d text))

shorter_step : (c : ℕ) (text : List ℕ) → length (cut text).1 < length (c ∷ text) → length (cut (c ∷ text)).1 < length (c ∷ text)
shorter_step c text e =
    elim (eqb c 10) as (λ feed. length (chosen feed c text).1 < length (c ∷ text))
    [ true ↦ omega arith | false ↦ e ]

cut_shorter : (c : ℕ) (text : List ℕ) → length (cut (c ∷ text)).1 < length (c ∷ text)
cut_shorter c [] = shorter_step c [] (omega arith)
cut_shorter c (d ∷ text) = shorter_step c (d ∷ text) (omega (arith, cut_shorter d text))

pub other_lines : (text line rest : List ℕ) → Some (line, rest) ≡ first_line text → lines text ≡ line ∷ lines rest
other_lines [] line rest e = absurd (let z : ◌≡◌ {A = ℕ} 0 1 = cc in omega arith)
other_lines (c ∷ text) line rest e =
    let same : (line, rest) ≡ cut (c ∷ text) = cc in
    subst (λ q. lines (c ∷ text) ≡ q.0 ∷ lines q.1) (sym same) (cut_lines c text)

pub rest_is_shorter : (text line rest : List ℕ) → Some (line, rest) ≡ first_line text → length rest < length text
rest_is_shorter [] line rest e = absurd (let z : ◌≡◌ {A = ℕ} 0 1 = cc in omega arith)
rest_is_shorter (c ∷ text) line rest e =
    let same : (line, rest) ≡ cut (c ∷ text) = cc in
    subst (λ q. length q.1 < length (c ∷ text)) (sym same) (cut_shorter c text)
