-- What the images hold after a trail in which no page was kept while one of its bytes was lost.
use Rattle.std.proofs.Common.{◌≡◌, ℕ, ◌*◌, ◌/◌, ◌<◌, Bool, true, false, cond, ltb, List, [], ◌∷◌, length, get_or, set, sym, refl, ap, ◌∙◌, subst, subst₂, inl, inr, arith}
use Rattle.std.proofs.lemmas.List.{length-set, get_or-set_same, get_or-set_other}
use Rattle.std.proofs.lemmas.Bool.{cases_eq, cond_both, cond-true, lt-ltb}
use Rattle.cells.specs.Images.{Images, after_put, after_keep, after_recall}
use Rattle.rules.specs.Kind.{Kind, pages}
use Rattle.rules.specs.State.{Event, put, keep, recall, fade}
use Rattle.rules.specs.Machine.{Changed}
use Rattle.promises.proofs.Marks.{Mark, fresh, clean, lost, mark, settled, promised, if_same, if_other}
use Rattle.cells.proofs.Pages.{length_page, page_in, page_out}

-- i is an outcome of the trail, from the first images
abbrev pub Leads : Kind → Images → List Event → Images → Type 0
Leads k first [] i = i ≡ first
Leads k first (e ∷ t) i = (j : Images) × (Leads k first t j × Changed k e j i)

-- each page was kept with none of its bytes lost
abbrev pub Fair : ℕ → List Event → Type 0
Fair n [] = Unit {0}
Fair n (put x b ∷ t) = Fair n t
Fair n (keep p ∷ t) = ((a : ℕ) → a < 64 * n → p ≡ a / 64 → mark a t ≡ lost → ⊥) × Fair n t
Fair n (recall p ∷ t) = Fair n t
Fair n (fade ∷ t) = Fair n t

-- a working byte w at a mark, where v is promised
abbrev pub Agrees : Mark → ℕ → ℕ → Type 0
Agrees (fresh b) v w = w ≡ b
Agrees clean v w = w ≡ v
Agrees lost v w = Unit {0}

-- both images have n pages
pub record Long (n : ℕ) (i : Images) : Type 0 where
  pub working : length i.working ≡ 64 * n
  pub kept : length i.kept ≡ 64 * n

changed_long : (k : Kind) (e : Event) (i j : Images) → Long (pages k) i → Changed k e i j → Long (pages k) j
changed_long k (put x b) i j o c =
    subst (Long (pages k)) (sym c)
    (cond_both (ltb x k.size) _ i (Long (pages k))
    (λ _. record {
      working = length-set i.working x b ∙ o.working;
      kept = cond_both k.lasting (set i.kept x b) i.kept (λ l. length l ≡ 64 * pages k) (λ _. length-set i.kept x b ∙ o.kept) (λ _. o.kept);
    })
    (λ _. o))
changed_long k (keep p) i j o c =
    subst (Long (pages k)) (sym c)
    (cond_both (ltb p (pages k)) _ i (Long (pages k))
    (λ _. record { working = o.working; kept = length_page p (pages k) i.working i.kept o.working o.kept })
    (λ _. o))
changed_long k (recall p) i j o c =
    subst (Long (pages k)) (sym c)
    (cond_both (ltb p (pages k)) _ i (Long (pages k))
    (λ _. record { working = length_page p (pages k) i.kept i.working o.kept o.working; kept = o.kept })
    (λ _. o))
changed_long k fade i j o c = record { working = c.1.many; kept = ap length c.0 ∙ o.kept }

pub long : (k : Kind) (first : Images) (t : List Event) (i : Images) → Long (pages k) first → Leads k first t i → Long (pages k) i
long k first [] i o l = subst (Long (pages k)) (sym l) o
long k first (e ∷ t) i o l = changed_long k e l.0 i (long k first t l.0 o l.1.0) l.1.1

pub record Stands (lasting : Bool) (first : List ℕ) (a : ℕ) (t : List Event) (i : Images) : Type 0 where
  pub kept : get_or i.kept a 0 ≡ promised lasting first a t
  pub working : Agrees (mark a t) (promised lasting first a t) (get_or i.working a 0)

-- a byte that is not lost is the settled one, and agrees with it
settle : (m : Mark) (v w : ℕ) → (m ≡ lost → ⊥) → Agrees m v w → (w ≡ settled m v) × Agrees m (settled m v) w
settle (fresh b) v w live h = (h, h)
settle clean v w live h = (h, h)
settle lost v w live h = absurd (live refl)

cond_same : {X : Type 0} (b : Bool) (x : X) → cond b x x ≡ x
cond_same true x = refl
cond_same false x = refl

-- what an event leaves at an address of n pages
module _ (n a : ℕ) (lt : a < 64 * n) (i : Images) (o : Long n i) where
  put_working_there : (l : Bool) (z x b : ℕ) → a < z → x ≡ a → get_or (after_put l z x b i).working a 0 ≡ b
  put_working_there l z x b lz same =
      ap (λ (j : Images). get_or j.working a 0) (cond-true (ltb x z) _ i (lt-ltb x z (omega arith)))
      ∙ subst (λ y. get_or (set i.working y b) a 0 ≡ b) (sym same) (get_or-set_same i.working a b 0 (omega (arith, o.working)))

  put_kept_there : (l : Bool) (z x b : ℕ) → a < z → x ≡ a → get_or (after_put l z x b i).kept a 0 ≡ cond l b (get_or i.kept a 0)
  put_kept_there l z x b lz same =
      ap (λ (j : Images). get_or j.kept a 0) (cond-true (ltb x z) _ i (lt-ltb x z (omega arith)))
      ∙ elim l as (λ q. get_or (cond q (set i.kept x b) i.kept) a 0 ≡ cond q b (get_or i.kept a 0)) [
        | true ↦ subst (λ y. get_or (set i.kept y b) a 0 ≡ b) (sym same) (get_or-set_same i.kept a b 0 (omega (arith, o.kept)))
        | false ↦ refl
      ]

  put_elsewhere : (l : Bool) (z x b : ℕ) → (x ≡ a → ⊥)
      → (get_or (after_put l z x b i).working a 0 ≡ get_or i.working a 0) × (get_or (after_put l z x b i).kept a 0 ≡ get_or i.kept a 0)
  put_elsewhere l z x b other =
      cond_both (ltb x z) _ i (λ (j : Images). (get_or j.working a 0 ≡ get_or i.working a 0) × (get_or j.kept a 0 ≡ get_or i.kept a 0))
      (λ _. (
        get_or-set_other i.working x a b 0 (λ e. other (sym e)),
        cond_both l (set i.kept x b) i.kept (λ w. get_or w a 0 ≡ get_or i.kept a 0) (λ _. get_or-set_other i.kept x a b 0 (λ e. other (sym e))) (λ _. refl),
      ))
      (λ _. (refl, refl))

  keep_there : (p : ℕ) → p ≡ a / 64 → get_or (after_keep n p i).kept a 0 ≡ get_or i.working a 0
  keep_there p same =
      ap (λ (j : Images). get_or j.kept a 0) (cond-true (ltb p n) _ i (lt-ltb p n (omega arith)))
      ∙ page_in p n i.working i.kept o.working o.kept a lt same

  keep_elsewhere : (p : ℕ) → (p ≡ a / 64 → ⊥) → get_or (after_keep n p i).kept a 0 ≡ get_or i.kept a 0
  keep_elsewhere p other =
      cond_both (ltb p n) _ i (λ (j : Images). get_or j.kept a 0 ≡ get_or i.kept a 0)
      (λ _. page_out p n i.working i.kept o.working o.kept a lt other) (λ _. refl)

  keep_working : (p : ℕ) → get_or (after_keep n p i).working a 0 ≡ get_or i.working a 0
  keep_working p = cond_both (ltb p n) _ i (λ (j : Images). get_or j.working a 0 ≡ get_or i.working a 0) (λ _. refl) (λ _. refl)

  recall_there : (p : ℕ) → p ≡ a / 64 → get_or (after_recall n p i).working a 0 ≡ get_or i.kept a 0
  recall_there p same =
      ap (λ (j : Images). get_or j.working a 0) (cond-true (ltb p n) _ i (lt-ltb p n (omega arith)))
      ∙ page_in p n i.kept i.working o.kept o.working a lt same

  recall_elsewhere : (p : ℕ) → (p ≡ a / 64 → ⊥) → get_or (after_recall n p i).working a 0 ≡ get_or i.working a 0
  recall_elsewhere p other =
      cond_both (ltb p n) _ i (λ (j : Images). get_or j.working a 0 ≡ get_or i.working a 0)
      (λ _. page_out p n i.kept i.working o.kept o.working a lt other) (λ _. refl)

  recall_kept : (p : ℕ) → get_or (after_recall n p i).kept a 0 ≡ get_or i.kept a 0
  recall_kept p = cond_both (ltb p n) _ i (λ (j : Images). get_or j.kept a 0 ≡ get_or i.kept a 0) (λ _. refl) (λ _. refl)

module _ (l : Bool) (first : List ℕ) (a : ℕ) where
  -- from the mark and the promised byte of a trail
  by : (t : List Event) (i : Images) (m : Mark) (v : ℕ) → mark a t ≡ m → promised l first a t ≡ v
      → get_or i.kept a 0 ≡ v → Agrees m v (get_or i.working a 0) → Stands l first a t i
  by t i m v em ev hk hw = record { kept = hk ∙ sym ev; working = subst₂ (λ x y. Agrees x y (get_or i.working a 0)) (sym em) (sym ev) hw }

  module _ (n : ℕ) (lt : a < 64 * n) (t : List Event) (j : Images) (o : Long n j) (s : Stands l first a t j) where
    put_stands : (z x b : ℕ) → a < z → Stands l first a (put x b ∷ t) (after_put l z x b j)
    put_stands z x b lz =
        elim (cases_eq x a) [
          | inl same ↦ by (put x b ∷ t) (after_put l z x b j) (fresh b) (cond l b (promised l first a t)) (if_same x a _ _ same)
              (ap (λ c. cond l c (promised l first a t)) (if_same x a b (promised l first a t) same))
              (put_kept_there n a lt j o l z x b lz same ∙ ap (cond l b) s.kept) (put_working_there n a lt j o l z x b lz same)
          | inr other ↦ (
              let e = put_elsewhere n a lt j o l z x b other in
              by (put x b ∷ t) (after_put l z x b j) (mark a t) (promised l first a t) (if_other x a _ _ other)
              (ap (λ c. cond l c (promised l first a t)) (if_other x a b (promised l first a t) other) ∙ cond_same l _)
              (e.1 ∙ s.kept) (subst (Agrees (mark a t) (promised l first a t)) (sym e.0) s.working))
        ]

    keep_stands : (p : ℕ) → (p ≡ a / 64 → mark a t ≡ lost → ⊥) → Stands l first a (keep p ∷ t) (after_keep n p j)
    keep_stands p live =
        elim (cases_eq p (a / 64)) [
          | inl same ↦ (
              let both = settle (mark a t) (promised l first a t) (get_or j.working a 0) (live same) s.working in
              by (keep p ∷ t) (after_keep n p j) (mark a t) (settled (mark a t) (promised l first a t)) refl (if_same p (a / 64) _ _ same)
              (keep_there n a lt j o p same ∙ both.0) (subst (Agrees (mark a t) _) (sym (keep_working n a lt j o p)) both.1))
          | inr other ↦ by (keep p ∷ t) (after_keep n p j) (mark a t) (promised l first a t) refl (if_other p (a / 64) _ _ other)
              (keep_elsewhere n a lt j o p other ∙ s.kept) (subst (Agrees (mark a t) _) (sym (keep_working n a lt j o p)) s.working)
        ]

    recall_stands : (p : ℕ) → Stands l first a (recall p ∷ t) (after_recall n p j)
    recall_stands p =
        elim (cases_eq p (a / 64)) [
          | inl same ↦ by (recall p ∷ t) (after_recall n p j) clean (promised l first a t) (if_same p (a / 64) _ _ same) refl
              (recall_kept n a lt j o p ∙ s.kept) (recall_there n a lt j o p same ∙ s.kept)
          | inr other ↦ by (recall p ∷ t) (after_recall n p j) (mark a t) (promised l first a t) (if_other p (a / 64) _ _ other) refl
              (recall_kept n a lt j o p ∙ s.kept) (subst (Agrees (mark a t) _) (sym (recall_elsewhere n a lt j o p other)) s.working)
        ]

-- the kept byte is the promised one, and the working byte agrees with its mark
pub stands : (k : Kind) (first : Images) → Long (pages k) first → (a : ℕ) → a < 64 * pages k → a < k.size
    → (t : List Event) (i : Images) → Fair (pages k) t → Leads k first t i → Stands k.lasting first.kept a t i
stands k first o a lt lz [] i f l = record { kept = ap (λ (x : Images). get_or x.kept a 0) l; working = tt }
stands k first o a lt lz (put x b ∷ t) i f l =
    subst (Stands k.lasting first.kept a (put x b ∷ t)) (sym l.1.1)
    (put_stands k.lasting first.kept a (pages k) lt t l.0 (long k first t l.0 o l.1.0) (stands k first o a lt lz t l.0 f l.1.0) k.size x b lz)
stands k first o a lt lz (keep p ∷ t) i f l =
    subst (Stands k.lasting first.kept a (keep p ∷ t)) (sym l.1.1)
    (keep_stands k.lasting first.kept a (pages k) lt t l.0 (long k first t l.0 o l.1.0) (stands k first o a lt lz t l.0 f.1 l.1.0) p (f.0 a lt))
stands k first o a lt lz (recall p ∷ t) i f l =
    subst (Stands k.lasting first.kept a (recall p ∷ t)) (sym l.1.1)
    (recall_stands k.lasting first.kept a (pages k) lt t l.0 (long k first t l.0 o l.1.0) (stands k first o a lt lz t l.0 f l.1.0) p)
stands k first o a lt lz (fade ∷ t) i f l =
    let s = stands k first o a lt lz t l.0 f l.1.0 in
    record { kept = ap (λ x. get_or x a 0) l.1.1.0 ∙ s.kept; working = tt }
