-- What a trail says of one address, computed from its newest event on.
use Rattle.std.proofs.Common.{◌≡◌, ℕ, ◌/◌, Bool, cond, eqb, List, [], ◌∷◌, ◌++◌, get_or, sym, refl, ap, ◌∙◌, inl, inr, arith}
use Rattle.std.proofs.lemmas.Bool.{cond-true, cond-false, eq-eqb, ne_eqb, cases_eq}
use Rattle.rules.specs.State.{Event, put, keep, recall, fade}
use Rattle.rules.specs.Trail.{Disturbs, Undisturbed, Standing, PutSinceRecall}

-- the working byte of an address: put since, as recalled, or lost
pub data Mark : Type 0 where
  fresh : ℕ → Mark
  clean : Mark
  lost : Mark

abbrev pub mark : ℕ → List Event → Mark
mark a [] = lost
mark a (put x b ∷ t) = cond (eqb x a) (fresh b) (mark a t)
mark a (keep p ∷ t) = mark a t
mark a (recall p ∷ t) = cond (eqb p (a / 64)) clean (mark a t)
mark a (fade ∷ t) = lost

-- the byte at a mark, where v is promised
abbrev pub settled : Mark → ℕ → ℕ
settled (fresh b) v = b
settled clean v = v
settled lost v = v

-- the promised byte
abbrev pub promised : Bool → List ℕ → ℕ → List Event → ℕ
promised lasting first a [] = get_or first a 0
promised lasting first a (put x b ∷ t) = cond lasting (cond (eqb x a) b (promised lasting first a t)) (promised lasting first a t)
promised lasting first a (keep p ∷ t) =
    cond (eqb p (a / 64)) (settled (mark a t) (promised lasting first a t)) (promised lasting first a t)
promised lasting first a (recall p ∷ t) = promised lasting first a t
promised lasting first a (fade ∷ t) = promised lasting first a t

pub if_same : {X : Type 0} (x a : ℕ) (u v : X) → x ≡ a → cond (eqb x a) u v ≡ u
if_same x a u v h = cond-true (eqb x a) u v (eq-eqb x a h)

pub if_other : {X : Type 0} (x a : ℕ) (u v : X) → (x ≡ a → ⊥) → cond (eqb x a) u v ≡ v
if_other x a u v h = cond-false (eqb x a) u v (ne_eqb x a h)

pub fresh_not_clean : (m : Mark) (b : ℕ) → m ≡ fresh b → m ≡ clean → ⊥
fresh_not_clean m b f c = let z : ◌≡◌ {A = ℕ} 0 1 = cc in omega arith

pub fresh_not_lost : (m : Mark) (b : ℕ) → m ≡ fresh b → m ≡ lost → ⊥
fresh_not_lost m b f c = let z : ◌≡◌ {A = ℕ} 0 1 = cc in omega arith

pub clean_not_lost : (m : Mark) → m ≡ clean → m ≡ lost → ⊥
clean_not_lost m f c = let z : ◌≡◌ {A = ℕ} 0 1 = cc in omega arith

-- ---- a put that nothing disturbed since

pub record Since (a : ℕ) (t : List Event) (b : ℕ) : Type 0 where
  pub behind : List Event
  pub before : List Event
  pub split : t ≡ behind ++ (put a b ∷ before)
  pub undisturbed : Undisturbed a behind

-- is the mark
mark_behind : (a b : ℕ) (behind before : List Event) → Undisturbed a behind → mark a (behind ++ (put a b ∷ before)) ≡ fresh b
mark_behind a b [] before q = if_same a a _ _ refl
mark_behind a b (put x c ∷ behind) before q = if_other x a _ _ q.0 ∙ mark_behind a b behind before q.1
mark_behind a b (keep p ∷ behind) before q = mark_behind a b behind before q.1
mark_behind a b (recall p ∷ behind) before q = if_other p (a / 64) _ _ q.0 ∙ mark_behind a b behind before q.1
mark_behind a b (fade ∷ behind) before q = absurd (q.0 tt)

pub since_mark : (a b : ℕ) (t : List Event) → Since a t b → mark a t ≡ fresh b
since_mark a b t s = ap (mark a) s.split ∙ mark_behind a b s.behind s.before s.undisturbed

since_more : (a b : ℕ) (e : Event) (t : List Event) → (Disturbs a e → ⊥) → Since a t b → Since a (e ∷ t) b
since_more a b e t d s = record { behind = e ∷ s.behind; before = s.before; split = ap (λ x. e ∷ x) s.split; undisturbed = (d, s.undisturbed) }

-- and the mark is of such a put
pub mark_since : (a b : ℕ) (t : List Event) → mark a t ≡ fresh b → Since a t b
mark_since a b [] m = absurd (let z : ◌≡◌ {A = ℕ} 0 1 = cc in omega arith)
mark_since a b (put x c ∷ t) m =
    elim (cases_eq x a) [
      | inl same ↦ (let vb : c ≡ b = (let e = if_same x a (fresh c) (mark a t) same in cc) in record { behind = []; before = t; split = ap (λ y. put y c ∷ t) same ∙ ap (λ y. put a y ∷ t) vb; undisturbed = tt })
      | inr other ↦ since_more a b (put x c) t other (mark_since a b t (sym (if_other x a (fresh c) (mark a t) other) ∙ m))
    ]
mark_since a b (keep p ∷ t) m = since_more a b (keep p) t (λ x. x) (mark_since a b t m)
mark_since a b (recall p ∷ t) m =
    elim (cases_eq p (a / 64)) [
      | inl same ↦ absurd (let e = if_same p (a / 64) clean (mark a t) same in let z : ◌≡◌ {A = ℕ} 0 1 = cc in omega arith)
      | inr other ↦ since_more a b (recall p) t other (mark_since a b t (sym (if_other p (a / 64) clean (mark a t) other) ∙ m))
    ]
mark_since a b (fade ∷ t) m = absurd (let z : ◌≡◌ {A = ℕ} 0 1 = cc in omega arith)

-- ---- the last put since the last recall, where the byte is not lost

standing_from : (a : ℕ) (behind : List Event) → Undisturbed a behind → Standing a behind
standing_from a [] q = tt
standing_from a (put x b ∷ behind) q = (q.0, standing_from a behind q.1)
standing_from a (keep p ∷ behind) q = (q.0, standing_from a behind q.1)
standing_from a (recall p ∷ behind) q = (q.0, standing_from a behind q.1)
standing_from a (fade ∷ behind) q = absurd (q.0 tt)

pub fresh_put_since_recall : (a b : ℕ) (t : List Event) → mark a t ≡ fresh b → PutSinceRecall a t b
fresh_put_since_recall a b t m =
    let s = mark_since a b t m in
    record { behind = s.behind; before = s.before; split = s.split; standing = standing_from a s.behind s.undisturbed }

-- a byte as recalled was not put since
standing_not_clean : (a b : ℕ) (behind before : List Event) → Standing a behind → mark a (behind ++ (put a b ∷ before)) ≡ clean → ⊥
standing_not_clean a b [] before q m = fresh_not_clean _ b (if_same a a (fresh b) (mark a before) refl) m
standing_not_clean a b (put x c ∷ behind) before q m = standing_not_clean a b behind before q.1 (sym (if_other x a _ _ q.0) ∙ m)
standing_not_clean a b (keep p ∷ behind) before q m = standing_not_clean a b behind before q.1 m
standing_not_clean a b (recall p ∷ behind) before q m = standing_not_clean a b behind before q.1 (sym (if_other p (a / 64) _ _ q.0) ∙ m)
standing_not_clean a b (fade ∷ behind) before q m = clean_not_lost lost m refl

pub clean_not_put_since_recall : (a b : ℕ) (t : List Event) → mark a t ≡ clean → PutSinceRecall a t b → ⊥
clean_not_put_since_recall a b t m s =
    standing_not_clean a b s.behind s.before s.standing (ap (mark a) (sym s.split) ∙ m)
