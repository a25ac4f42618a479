-- What a page set in an image leaves, at each address, and what keep and recall leave by that.
use Rattle.std.proofs.Common.{◌≡◌, ℕ, ◌+◌, ◌-◌, ◌*◌, ◌/◌, ◌<◌, ◌≤◌, Bool, true, false, cond, ltb, List, ◌++◌, length, get_or, take, drop, is_ok, Ok, Err, Result, sym, refl, ap, ◌∙◌, inl, inr, ap₂, rules, arith}
use borrow.Rule.Slice.PartMut.{put_mid}
use Rattle.std.proofs.lemmas.List.{length-take, length-drop, length-append, take-append-drop, drop_at, take_at, get_or_append_left, get_or-append_right, get_or-take, get_or-drop}
use Rattle.std.proofs.lemmas.Bool.{ltb-true, cond-true, cond_both, cases_lt}
use Rattle.refusal.specs.Numbers.{numbered}
use Rattle.refusal.specs.declared.Refusal.{Refusal}
use Rattle.cells.specs.Images.{Images, page_of, with_page, page_answer, after_keep, after_recall}

-- a page of an image over itself
pub with_own_page : (p : ℕ) (image : List ℕ) → with_page p image image ≡ image
unfolding with_page
with_own_page p image =
    ap (λ rest. take (64 * p) image ++ rest) (take-append-drop 64 (drop (64 * p) image)) ∙ take-append-drop (64 * p) image

-- a page set in an image, at an address in it and at any other
module _ (p n : ℕ) (other image : List ℕ) (lo : length other ≡ 64 * n) (li : length image ≡ 64 * n) where
  pub length_page : length (with_page p other image) ≡ 64 * n
  unfolding with_page
  length_page = simp (length-append, length-take, length-drop) (omega arith)

  pub page_in : (a : ℕ) → a < 64 * n → p ≡ a / 64 → get_or (with_page p other image) a 0 ≡ get_or other a 0
  unfolding with_page
  page_in a lt same =
      let low : 64 * p ≤ a = omega arith in
      let high : a < 64 * p + 64 = omega arith in
      let all : 64 * p + 64 ≤ 64 * n = omega arith in
      let front : length (take (64 * p) image) ≡ 64 * p = simp length-take (omega arith) in
      let mid : a - 64 * p < length (take 64 (drop (64 * p) other)) = simp (length-take, length-drop) (omega arith) in
      get_or-append_right (take (64 * p) image) _ (64 * p) a 0 front low
      ∙ get_or_append_left (take 64 (drop (64 * p) other)) _ 0 (a - 64 * p) mid
      ∙ get_or-take 64 (drop (64 * p) other) (a - 64 * p) 0 (omega arith)
      ∙ get_or-drop (64 * p) other (a - 64 * p) 0
      ∙ ap (λ k. get_or other k 0) (omega arith)

  pub page_out : (a : ℕ) → a < 64 * n → (p ≡ a / 64 → ⊥) → get_or (with_page p other image) a 0 ≡ get_or image a 0
  unfolding with_page
  page_out a lt apart =
      elim (cases_lt a (64 * p)) [
        | inl low ↦ (
            let front : a < length (take (64 * p) image) = simp length-take (omega arith) in
            get_or_append_left (take (64 * p) image) _ 0 a front ∙ get_or-take (64 * p) image a 0 low)
        | inr high ↦ (
            let past : 64 * p + 64 ≤ a = omega arith in
            let front : length (take (64 * p) image) ≡ 64 * p = simp length-take (omega arith) in
            let mid : length (take 64 (drop (64 * p) other)) ≡ 64 = simp (length-take, length-drop) (omega arith) in
            get_or-append_right (take (64 * p) image) _ (64 * p) a 0 front (omega arith)
            ∙ get_or-append_right (take 64 (drop (64 * p) other)) _ 64 (a - 64 * p) 0 mid (omega arith)
            ∙ get_or-drop 64 (drop (64 * p) image) (a - 64 * p - 64) 0
            ∙ get_or-drop (64 * p) image (64 + (a - 64 * p - 64)) 0
            ∙ ap (λ k. get_or image k 0) (omega arith))
      ]

module _ (n p : ℕ) (other image : List ℕ) (lt : p < n) (lo : length other ≡ 64 * n) (li : length image ≡ 64 * n) where
  pub page_with_page : page_of p (with_page p other image) ≡ page_of p other
  unfolding with_page
  page_with_page =
      ap (take 64) (drop_at (take (64 * p) image) _ (64 * p) (simp length-take (omega arith)))
      ∙ take_at (page_of p other) _ 64 (simp (length-take, length-drop) (omega arith))

-- the 64 bytes of a page, written over those of an image
pub page_written : (p : ℕ) (other image new : List ℕ) → new ≡ take (64 * p + 64 - 64 * p) (drop (64 * p) other) → put_mid (64 * p) (64 * p + 64 - 64 * p) image new ≡ with_page p other image
unfolding with_page
page_written p other image new e =
    let long : 64 * p + 64 - 64 * p ≡ 64 = omega arith in
    ap₂ (λ n part. put_mid (64 * p) n image part) long (e ∙ ap (λ n. take n (drop (64 * p) other)) long) ∙ search rules

ok_when : (b : Bool) → is_ok {T = Unit {0}} {E = ℕ} (cond b (Ok tt) (Err 42)) ≡ b
ok_when true = refl
ok_when false = refl

-- a keep or a recall is done exactly if its page is there
pub done_is : (n p : ℕ) (r : Result (Unit {0}) Refusal) → numbered r ≡ page_answer n p → is_ok r ≡ ltb p n
done_is n p (Ok x) e = ap is_ok e ∙ ok_when (ltb p n)
done_is n p (Err x) e = ap is_ok e ∙ ok_when (ltb p n)

-- a page that was found is one of the pages
pub page_found : (n p : ℕ) (r : Result (Unit {0}) Refusal) → numbered r ≡ page_answer n p → is_ok r ≡ true → p < n
page_found n p r e ok = ltb-true p n (sym (done_is n p r e) ∙ ok)

-- what a keep leaves in the working image, and a recall in the kept one
pub keep_working : (n p : ℕ) (i : Images) → (after_keep n p i).working ≡ i.working
keep_working n p i = cond_both (ltb p n) _ i (λ x. x.working ≡ i.working) (λ _. refl) (λ _. refl)

pub recall_kept : (n p : ℕ) (i : Images) → (after_recall n p i).kept ≡ i.kept
recall_kept n p i = cond_both (ltb p n) _ i (λ x. x.kept ≡ i.kept) (λ _. refl) (λ _. refl)

module _ (n p : ℕ) (i : Images) (has : ltb p n ≡ true) (w : length i.working ≡ 64 * n) (k : length i.kept ≡ 64 * n) where
  pub keep_page : page_of p (after_keep n p i).kept ≡ page_of p i.working
  keep_page = ap (λ (x : Images). page_of p x.kept) (cond-true (ltb p n) _ _ has) ∙ page_with_page n p i.working i.kept (ltb-true p n has) w k

  pub recall_page : page_of p (after_recall n p i).working ≡ page_of p i.kept
  recall_page = ap (λ (x : Images). page_of p x.working) (cond-true (ltb p n) _ _ has) ∙ page_with_page n p i.kept i.working (ltb-true p n has) k w
