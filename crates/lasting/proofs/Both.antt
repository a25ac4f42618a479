-- A buffer that is both images: what a put leaves in it, and that a page copied over itself leaves it as it was.
use Rattle.std.proofs.Common.{◌≡◌, ℕ, ◌*◌, Bool, true, false, cond, ltb, List, ◌++◌, length, take, drop, set, sym, refl, ap, ◌∙◌, arith}
use Rattle.std.proofs.lemmas.List.{length-append, length-drop, length-set, take_at, drop_at}
use Rattle.std.proofs.lemmas.Bool.{cond_both}
use Rattle.cells.specs.Images.{after_put, after_keep, after_recall}
use Rattle.cells.specs.Sizes.{pages_for}
use Rattle.cells.proofs.Pages.{with_own_page}
use Rattle.cells.proofs.Powers.{pages_fit}
use Rattle.lasting.specs.Array.{long}
use Rattle.lasting.specs.Whole.{size_in, twice, whole, behind}

apart : (t : Bool) (w image : List ℕ) → twice (cond t w image) ≡ cond t (twice w) (twice image)
apart true w image = refl
apart false w image = refl

-- a buffer with a byte put into its image, if that has the address
module _ (b c w : List ℕ) (a v : ℕ) (e : c ≡ w ++ drop (size_in b) b) (put : w ≡ cond (ltb a (size_in b)) (set (whole b).working a v) (whole b).working) where
  new_long : length w ≡ size_in b
  new_long =
      ap length put
      ∙ cond_both (ltb a (size_in b)) _ _ (λ x. length x ≡ size_in b) (λ _. length-set (whole b).working a v ∙ long b) (λ _. long b)

  same_size : size_in c ≡ size_in b
  same_size =
      let within = pages_fit (length b) in
      let l = new_long in
      let same : length c ≡ length b = ap length e ∙ simp (length-append, length-drop) (omega arith) in
      ap (λ n. 64 * pages_for n) same

  pub put_into : whole c ≡ after_put true (size_in b) a v (whole b)
  unfolding whole
  put_into =
      ap (λ n. twice (take n c)) same_size ∙ ap (λ x. twice (take (size_in b) x)) e ∙ ap twice (take_at w _ (size_in b) new_long ∙ put)
      ∙ apart (ltb a (size_in b)) _ _

  pub same_behind : behind c ≡ behind b
  unfolding behind
  same_behind = ap (λ n. drop n c) same_size ∙ ap (drop (size_in b)) e ∙ drop_at w _ (size_in b) new_long

-- a page is the same in both images, so that a keep and a recall leave them as they were
module _ (b : List ℕ) (p : ℕ) where
  pub kept : whole b ≡ after_keep (pages_for (length b)) p (whole b)
  unfolding whole
  kept =
      cond_both (ltb p (pages_for (length b))) _ _ (λ i. whole b ≡ i)
      (λ _. ap (λ k. record { working = take (size_in b) b; kept = k }) (sym (with_own_page p (take (size_in b) b)))) (λ _. refl)

  pub recalled : whole b ≡ after_recall (pages_for (length b)) p (whole b)
  unfolding whole
  recalled =
      cond_both (ltb p (pages_for (length b))) _ _ (λ i. whole b ≡ i)
      (λ _. ap (λ w. record { working = w; kept = take (size_in b) b }) (sym (with_own_page p (take (size_in b) b)))) (λ _. refl)
