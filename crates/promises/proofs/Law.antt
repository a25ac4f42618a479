-- The promised byte of the law is the one that `promised` computes.
use Rattle.std.proofs.Common.{◌≡◌, ℕ, ◌/◌, Bool, true, false, cond, eqb, ◌⊎◌, List, [], ◌∷◌, ◌++◌, sym, refl, ap, ◌∙◌, subst, inl, inr, arith}
use Rattle.std.proofs.lemmas.List.{append_assoc}
use Rattle.std.proofs.lemmas.Bool.{cases_eq, false≢true}
use Rattle.rules.specs.State.{Event, put, keep, recall, fade}
use Rattle.rules.specs.Trail.{Undisturbed, KeptLater, Promised, NonePromised, LastPromised, PromisedByte}
use Rattle.promises.proofs.Marks.{Mark, fresh, clean, lost, mark, settled, promised, if_same, if_other, Since, since_mark, mark_since, fresh_not_clean, fresh_not_lost}

pub not_nil : (e : Event) (xs ys : List Event) → [] ≡ xs ++ (e ∷ ys) → ⊥
not_nil e [] ys h = let z : ◌≡◌ {A = ℕ} 0 1 = cc in omega arith
not_nil e (x ∷ xs) ys h = let z : ◌≡◌ {A = ℕ} 0 1 = cc in omega arith

-- ---- lasting cells: the last put is the promised one

none_first : (lasting : Bool) (a : ℕ) → NonePromised lasting a []
none_first lasting a behind before b split p = not_nil (put a b) behind before split

module _ (first : List ℕ) (a : ℕ) where
  -- an event that is no put to a changes nothing
  no_put_more : (e : Event) (t : List Event) (v : ℕ) → ((b : ℕ) → e ≡ put a b → ⊥) → PromisedByte true first a t v → PromisedByte true first a (e ∷ t) v
  no_put_more e t v other (inl l) = inl (record {
    behind = e ∷ l.behind;
    before = l.before;
    split = ap (λ x. e ∷ x) l.split;
    promised = inl refl;
    last = λ newer older c split p. no_later newer older c split;
  })
    where
      no_later : (newer older : List Event) (c : ℕ) → (e ∷ l.behind) ≡ newer ++ (put a c ∷ older) → ⊥
      no_later [] older c split = other c cc
      no_later (x ∷ newer) older c split = l.last newer older c (cc) (inl refl)
  no_put_more e t v other (inr n) = inr (none, n.1)
    where
      none : NonePromised true a (e ∷ t)
      none [] before b split p = other b cc
      none (x ∷ behind) before b split p = n.0 behind before b (cc) (inl refl)

  put_now : (b : ℕ) (t : List Event) → PromisedByte true first a (put a b ∷ t) b
  put_now b t = inl (record { behind = []; before = t; split = refl; promised = inl refl; last = λ newer older c split p. not_nil (put a c) newer older split })

  -- a mark of a put is the byte promised since
  fresh_is_promised : (b : ℕ) (t : List Event) → mark a t ≡ fresh b → promised true first a t ≡ b
  fresh_is_promised b [] m = absurd (let z : ◌≡◌ {A = ℕ} 0 1 = cc in omega arith)
  fresh_is_promised b (put x c ∷ t) m =
      elim (cases_eq x a) [
        | inl same ↦ if_same x a c (promised true first a t) same ∙ (let e = if_same x a (fresh c) (mark a t) same in cc)
        | inr other ↦ if_other x a c (promised true first a t) other ∙ fresh_is_promised b t (sym (if_other x a (fresh c) (mark a t) other) ∙ m)
      ]
  fresh_is_promised b (keep p ∷ t) m =
      elim (cases_eq p (a / 64)) [
        | inl same ↦ if_same p (a / 64) _ _ same ∙ ap (λ k. settled k (promised true first a t)) m
        | inr other ↦ if_other p (a / 64) _ _ other ∙ fresh_is_promised b t m
      ]
  fresh_is_promised b (recall p ∷ t) m =
      elim (cases_eq p (a / 64)) [
        | inl same ↦ absurd (fresh_not_clean _ b m (if_same p (a / 64) clean (mark a t) same))
        | inr other ↦ fresh_is_promised b t (sym (if_other p (a / 64) clean (mark a t) other) ∙ m)
      ]
  fresh_is_promised b (fade ∷ t) m = absurd (fresh_not_lost _ b m refl)

  settled_is_promised : (t : List Event) (m : Mark) → mark a t ≡ m → settled m (promised true first a t) ≡ promised true first a t
  settled_is_promised t (fresh b) e = sym (fresh_is_promised b t e)
  settled_is_promised t clean e = refl
  settled_is_promised t lost e = refl

  lasting_is : (t : List Event) → PromisedByte true first a t (promised true first a t)
  lasting_is [] = inr (none_first true a, refl)
  lasting_is (put x b ∷ t) =
      elim (cases_eq x a) [
        | inl same ↦ subst (λ y. PromisedByte true first a (put y b ∷ t) (cond (eqb x a) b (promised true first a t))) (sym same)
            (subst (PromisedByte true first a (put a b ∷ t)) (sym (if_same x a b _ same)) (put_now b t))
        | inr other ↦ subst (PromisedByte true first a (put x b ∷ t)) (sym (if_other x a b _ other))
            (no_put_more (put x b) t _ (λ c e. other cc) (lasting_is t))
      ]
  lasting_is (keep p ∷ t) =
      elim (cases_eq p (a / 64)) [
        | inl same ↦ subst (PromisedByte true first a (keep p ∷ t))
            (sym (if_same p (a / 64) _ _ same ∙ settled_is_promised t (mark a t) refl))
            (no_put_more (keep p) t _ (λ c e. let z : ◌≡◌ {A = ℕ} 0 1 = cc in omega arith) (lasting_is t))
        | inr other ↦ subst (PromisedByte true first a (keep p ∷ t)) (sym (if_other p (a / 64) _ _ other))
            (no_put_more (keep p) t _ (λ c e. let z : ◌≡◌ {A = ℕ} 0 1 = cc in omega arith) (lasting_is t))
      ]
  lasting_is (recall p ∷ t) = no_put_more (recall p) t _ (λ c e. let z : ◌≡◌ {A = ℕ} 0 1 = cc in omega arith) (lasting_is t)
  lasting_is (fade ∷ t) = no_put_more fade t _ (λ c e. let z : ◌≡◌ {A = ℕ} 0 1 = cc in omega arith) (lasting_is t)

-- ---- shadowed cells: a keep promises what was put since

-- in shadowed cells only a later keep promises
kept_later : (a : ℕ) (behind : List Event) → Promised false a behind → KeptLater a behind
kept_later a behind (inl e) = absurd (false≢true e)
kept_later a behind (inr k) = k

kept_more : (a : ℕ) (e : Event) (behind : List Event) → KeptLater a behind → KeptLater a (e ∷ behind)
kept_more a e behind k = record { later = e ∷ k.later; between = k.between; split = ap (λ x. e ∷ x) k.split; undisturbed = k.undisturbed }

kept_less : (a : ℕ) (e : Event) (behind later between : List Event) → (e ∷ behind) ≡ later ++ (keep (a / 64) ∷ between)
    → Undisturbed a between → KeptLater a behind ⊎ ((e ≡ keep (a / 64)) × Undisturbed a behind)
kept_less a e behind [] between split q =
    let rest : between ≡ behind = cc in
    inr (cc, subst (Undisturbed a) rest q)
kept_less a e behind (x ∷ later) between split q = inl (record { later = later; between = between; split = cc; undisturbed = q })

undisturbed_no_put : (a b : ℕ) (newer older behind : List Event) → behind ≡ newer ++ (put a b ∷ older) → Undisturbed a behind → ⊥
undisturbed_no_put a b [] older behind e q = (subst (Undisturbed a) e q).0 refl
undisturbed_no_put a b (x ∷ newer) older behind e q = undisturbed_no_put a b newer older (newer ++ (put a b ∷ older)) refl (subst (Undisturbed a) e q).1

-- e promises no put of t anew
abbrev Idle : ℕ → Event → List Event → Type 0
Idle a e t = e ≡ keep (a / 64) → (v : ℕ) → Since a t v → ⊥

-- a promised put of e ∷ t was promised in t
promised_less : (a b : ℕ) (e : Event) (t behind before : List Event) → Idle a e t → (e ∷ t) ≡ behind ++ (put a b ∷ before)
    → Promised false a behind → (newer : List Event) × ((t ≡ newer ++ (put a b ∷ before)) × Promised false a newer)
promised_less a b e t [] before idle split p = let k = kept_later a [] p in absurd (not_nil (keep (a / 64)) k.later k.between k.split)
promised_less a b e t (x ∷ behind) before idle split p =
    let rest : t ≡ behind ++ (put a b ∷ before) = cc in
    let same : e ≡ x = cc in
    let k = kept_later a (x ∷ behind) p in
    elim (kept_less a x behind k.later k.between k.split k.undisturbed) [
      | inl still ↦ (behind, (rest, inr still))
      | inr by ↦ absurd (idle (same ∙ by.0) b (record { behind = behind; before = before; split = rest; undisturbed = by.1 }))
    ]

none_more : (a : ℕ) (e : Event) (t : List Event) → Idle a e t → NonePromised false a t → NonePromised false a (e ∷ t)
none_more a e t idle none behind before b split p =
    let less = promised_less a b e t behind before idle split p in
    none less.0 before b less.1.0 less.1.1

last_more : (a v : ℕ) (e : Event) (t : List Event) → Idle a e t → LastPromised false a t v → LastPromised false a (e ∷ t) v
last_more a v e t idle l = record {
  behind = e ∷ l.behind;
  before = l.before;
  split = ap (λ x. e ∷ x) l.split;
  promised = inr (kept_more a e l.behind (kept_later a l.behind l.promised));
  last = λ newer older b split p.
      let idle' : Idle a e l.behind = λ k u since. idle k u (record { behind = since.behind; before = since.before ++ (put a v ∷ l.before); split = l.split ∙ ap (λ x. x ++ (put a v ∷ l.before)) since.split ∙ append_assoc since.behind (put a u ∷ since.before) (put a v ∷ l.before); undisturbed = since.undisturbed }) in
      let less = promised_less a b e l.behind newer older idle' split p in
      l.last less.0 older b less.1.0 less.1.1;
}

more : (first : List ℕ) (a v : ℕ) (e : Event) (t : List Event) → Idle a e t → PromisedByte false first a t v → PromisedByte false first a (e ∷ t) v
more first a v e t idle p = elim p [ inl l ↦ inl (last_more a v e t idle l) | inr n ↦ inr (none_more a e t idle n.0, n.1) ]

-- a keep of its page promises what was put since
kept : (first : List ℕ) (a v : ℕ) (t : List Event) → Since a t v → PromisedByte false first a (keep (a / 64) ∷ t) v
kept first a v t s = inl (record {
  behind = keep (a / 64) ∷ s.behind;
  before = s.before;
  split = ap (λ x. keep (a / 64) ∷ x) s.split;
  promised = inr (record { later = []; between = s.behind; split = refl; undisturbed = s.undisturbed });
  last = no_later;
})
  where
    no_later : (newer older : List Event) (b : ℕ) → (keep (a / 64) ∷ s.behind) ≡ newer ++ (put a b ∷ older) → Promised false a newer → ⊥
    no_later [] older b split p = let k = kept_later a [] p in not_nil (keep (a / 64)) k.later k.between k.split
    no_later (x ∷ newer) older b split p = let rest : s.behind ≡ newer ++ (put a b ∷ older) = cc in undisturbed_no_put a b newer older s.behind rest s.undisturbed

at_keep : (first : List ℕ) (a : ℕ) (t : List Event) (m : Mark) → mark a t ≡ m → PromisedByte false first a t (promised false first a t)
    → PromisedByte false first a (keep (a / 64) ∷ t) (settled m (promised false first a t))
at_keep first a t (fresh b) is p = kept first a b t (mark_since a b t is)
at_keep first a t clean is p = more first a _ (keep (a / 64)) t (λ _ v s. fresh_not_clean _ v (since_mark a v t s) is) p
at_keep first a t lost is p = more first a _ (keep (a / 64)) t (λ _ v s. fresh_not_lost _ v (since_mark a v t s) is) p

not_keep : (first : List ℕ) (a v : ℕ) (e : Event) (t : List Event) → (e ≡ keep (a / 64) → ⊥) → PromisedByte false first a t v → PromisedByte false first a (e ∷ t) v
not_keep first a v e t other p = more first a v e t (λ k. absurd (other k)) p

shadowed_is : (first : List ℕ) (a : ℕ) (t : List Event) → PromisedByte false first a t (promised false first a t)
shadowed_is first a [] = inr (none_first false a, refl)
shadowed_is first a (put x b ∷ t) = not_keep first a _ (put x b) t (λ e. let z : ◌≡◌ {A = ℕ} 0 1 = cc in omega arith) (shadowed_is first a t)
shadowed_is first a (recall p ∷ t) = not_keep first a _ (recall p) t (λ e. let z : ◌≡◌ {A = ℕ} 0 1 = cc in omega arith) (shadowed_is first a t)
shadowed_is first a (fade ∷ t) = not_keep first a _ fade t (λ e. let z : ◌≡◌ {A = ℕ} 0 1 = cc in omega arith) (shadowed_is first a t)
shadowed_is first a (keep p ∷ t) =
    elim (cases_eq p (a / 64)) [
      | inl same ↦ subst (PromisedByte false first a (keep p ∷ t)) (sym (if_same p (a / 64) _ _ same))
          (subst (λ q. PromisedByte false first a (keep q ∷ t) (settled (mark a t) (promised false first a t))) (sym same)
          (at_keep first a t (mark a t) refl (shadowed_is first a t)))
      | inr other ↦ subst (PromisedByte false first a (keep p ∷ t)) (sym (if_other p (a / 64) _ _ other))
          (not_keep first a _ (keep p) t (λ e. other cc) (shadowed_is first a t))
    ]

pub promised_is : (lasting : Bool) (first : List ℕ) (a : ℕ) (t : List Event) → PromisedByte lasting first a t (promised lasting first a t)
promised_is true first a t = lasting_is first a t
promised_is false first a t = shadowed_is first a t
