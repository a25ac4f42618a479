-- What a buffer of two halves holds after its images have changed.
use Rattle.std.proofs.Common.{◌≡◌, ℕ, ◌*◌, ◌/◌, ◌<◌, Bool, true, false, cond, ltb, List, ◌++◌, length, min, take, drop, set, replicate, sym, refl, ap, ◌∙◌, subst, arith}
use Rattle.std.proofs.lemmas.List.{length-drop, length-append, length-set, length-replicate, get_or-replicate, take-append-drop, take_at, drop_at}
use Rattle.std.proofs.lemmas.Bool.{cond_both}
use Rattle.cells.specs.Images.{Images, with_page, after_put, after_keep, after_recall}
use Rattle.cells.specs.Laws.{Bytes}
use Rattle.cells.proofs.Bytes.{bytes}
use Rattle.cells.proofs.Pages.{length_page}
use Rattle.shadowed.specs.Array.{fits, long}
use Rattle.shadowed.specs.Halves.{pages_in, size_in, halves, behind, Left}

-- two images and what lies behind them, as they lie in a buffer
abbrev pub laid : Images → List ℕ → List ℕ
laid i rest = i.working ++ (i.kept ++ rest)

-- the two images and the rest, cut out of a buffer at n and 2 × n
abbrev cut : ℕ → List ℕ → Images
cut n b = record { working = take n b; kept = take n (drop n b) }

module _ (n : ℕ) (i : Images) (rest : List ℕ) (w : length i.working ≡ n) (k : length i.kept ≡ n) where
  after : drop n (laid i rest) ≡ i.kept ++ rest
  after = drop_at i.working _ n w

  cut_laid : cut n (laid i rest) ≡ i
  cut_laid =
      ap (λ x. record { working = x; kept = take n (drop n (laid i rest)) }) (take_at i.working _ n w)
      ∙ ap (λ x. record { working = i.working; kept = x }) (ap (take n) after ∙ take_at i.kept rest n k)

  rest_laid : drop n (drop n (laid i rest)) ≡ rest
  rest_laid = ap (drop n) after ∙ drop_at i.kept rest n k

-- a buffer with new images of the old size
pub left : (b c : List ℕ) (i : Images) → c ≡ laid i (behind b) → length i.working ≡ size_in b → length i.kept ≡ size_in b → Left b c i
unfolding halves behind
left b c i e w k =
    let h = fits b in
    let same : length c ≡ length b = ap length e ∙ simp (length-append, length-drop) (omega arith) in
    let n : size_in c ≡ size_in b = ap (λ m. 64 * pages_in m) same in
    record {
      images = ap (λ m. cut m c) n ∙ ap (cut (size_in b)) e ∙ cut_laid (size_in b) i (behind b) w k;
      behind = ap (λ m. drop m (drop m c)) n ∙ ap (λ x. drop (size_in b) (drop (size_in b) x)) e ∙ rest_laid (size_in b) i (behind b) w k;
    }

-- a buffer with a new working image
pub new_working : (b c w : List ℕ) → c ≡ w ++ drop (size_in b) b → length w ≡ size_in b → Left b c (record { working = w; kept = (halves b).kept })
unfolding halves behind
new_working b c w e l =
    left b c _ (e ∙ ap (λ rest. w ++ rest) (sym (take-append-drop (size_in b) (drop (size_in b) b)))) l (long b).1

-- a test between two images is a test between their working ones, or between their kept ones
working_if : (t : Bool) (w : List ℕ) (i : Images) → record { working = cond t w i.working; kept = i.kept } ≡ cond t (record { working = w; kept = i.kept }) i
working_if true w i = refl
working_if false w i = refl

kept_if : (t : Bool) (k : List ℕ) (i : Images) → record { working = i.working; kept = cond t k i.kept } ≡ cond t (record { working = i.working; kept = k }) i
kept_if true k i = refl
kept_if false k i = refl

-- a buffer with a byte put into its working image, if that has the address
pub put_into : (b c w : List ℕ) (a v : ℕ) → c ≡ w ++ drop (size_in b) b → w ≡ cond (ltb a (size_in b)) (set (halves b).working a v) (halves b).working → Left b c (after_put false (size_in b) a v (halves b))
put_into b c w a v e put =
    let l = (long b).0 in
    let image = cond_both (ltb a (size_in b)) _ _ (λ x. length x ≡ size_in b) (λ _. length-set (halves b).working a v ∙ l) (λ _. l) in
    subst (Left b c) (ap (λ x. record { working = x; kept = (halves b).kept }) put ∙ working_if (ltb a (size_in b)) _ (halves b))
    (new_working b c w e (ap length put ∙ image))

-- an image in which a page of another one was set, if both have the page
abbrev pub set_page : ℕ → List ℕ → List ℕ → List ℕ
set_page p other image = cond (ltb p (min (length other) (length image) / 64)) (with_page p other image) image

-- two images of n pages
module _ (n p : ℕ) (other image : List ℕ) (lo : length other ≡ 64 * n) (li : length image ≡ 64 * n) where
  set_page_is : set_page p other image ≡ cond (ltb p n) (with_page p other image) image
  set_page_is =
      let pages : min (length other) (length image) / 64 ≡ n = omega arith in
      ap (λ m. cond (ltb p m) (with_page p other image) image) pages

  length_set_page : length (set_page p other image) ≡ 64 * n
  length_set_page =
      cond_both (ltb p (min (length other) (length image) / 64)) _ _ (λ x. length x ≡ 64 * n) (λ _. length_page p n other image lo li) (λ _. li)

-- a buffer in which page p of one image was set to that of the other
module _ (b c : List ℕ) (p : ℕ) where
  pub kept : c ≡ (halves b).working ++ (set_page p (halves b).working (halves b).kept ++ behind b) → Left b c (after_keep (pages_in (length b)) p (halves b))
  kept e =
      let n = pages_in (length b) in
      let i = halves b in
      let (w, k) = long b in
      subst (Left b c) (ap (λ x. record { working = i.working; kept = x }) (set_page_is n p i.working i.kept w k) ∙ kept_if (ltb p n) _ i)
      (left b c _ e w (length_set_page n p i.working i.kept w k))

  pub recalled : c ≡ set_page p (halves b).kept (halves b).working ++ drop (size_in b) b → Left b c (after_recall (pages_in (length b)) p (halves b))
  recalled e =
      let n = pages_in (length b) in
      let i = halves b in
      let (w, k) = long b in
      subst (Left b c) (ap (λ x. record { working = x; kept = i.kept }) (set_page_is n p i.kept i.working k w) ∙ working_if (ltb p n) _ i)
      (new_working b c _ e (length_set_page n p i.kept i.working k w))

-- a buffer whose working image was filled with one value
pub filled : (n v : ℕ) → v < 256 → Bytes n (replicate n v)
filled n v small = bytes n _ (length-replicate n v) (λ k lt. omega (arith, get_or-replicate n k v 0 lt))
