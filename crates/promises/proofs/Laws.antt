-- The small laws.
use Rattle.std.proofs.Common.{◌≡◌, ℕ, zero, suc, ◌+◌, ◌-◌, ◌/◌, ◌≤◌, Bool, true, false, ◌&&◌, ltb, ◌⊎◌, List, [], ◌∷◌, ◌++◌, get_or, sym, refl, ap, ◌∙◌, subst, ap₂, inl, inr, arith}
use Rattle.std.proofs.lemmas.Bool.{cases_eq, cond-true, cond_both, and_parts}
use Rattle.rules.specs.declared.Activity.{Activity}
use Rattle.rules.specs.declared.Activity.TheVariants.{Idle, Storing, Recalling, Waking}
use Rattle.rules.specs.declared.Power.{Power}
use Rattle.rules.specs.declared.Power.TheVariants.{Off, On}
use Rattle.rules.specs.declared.Call.TheVariants.{Byte, Release, Tick, Cut}
use Rattle.rules.specs.Kind.{Kind, alive, pages}
use Rattle.rules.specs.State.{State, selected, reading_status, Event, put, keep, recall, fade}
use Rattle.rules.specs.Power.{keeps, saved, cut_events}
use Rattle.rules.specs.Step.{Out, step, on_byte, on_release, live_call}
use Rattle.rules.specs.History.{state_after, trail, calls_of, images_after}
use Rattle.rules.specs.Trail.{Supersedes, Standing, LastPromised, PromisedByte, PutSinceRecall, CurrentByte}
use Rattle.promises.specs.Laws.{PowerStoreOffDoesNotStopAStore, Keeps, NoOtherCutKeeps, IdleCutKeepsEveryPage, PromisesPinTheKeptImage, PromisesPinTheIdleWorkingImage, WakingLeavesTheKeptImage, ProtectionDoesNotHoldBackARecall, ReadingStatusDoesNotClearTheFailMark, EachAddressHasOnePromisedByte, EachAddressHasOneCurrentByte}
use Rattle.promises.proofs.Marks.{promised}
use Rattle.promises.proofs.Law.{promised_is, not_nil}
use Rattle.promises.proofs.Frames.{step_on}

-- ---- rules easily got wrong

pub store_goes_on : PowerStoreOffDoesNotStopAStore
store_goes_on k s p live on = (
  ap (λ (o : Out). o.events) (step_on k s (Storing p) Tick live on),
  ap (λ (o : Out). o.events) (step_on k s (Storing p) (Cut true) live on),
)

-- what a cut keeps
kept_from : (p q n : ℕ) → Keeps p (keeps q n) → q ≤ p
kept_from p q zero h = absurd h
kept_from p q (suc n) (inl same) = omega arith
kept_from p q (suc n) (inr h) = let later = kept_from p (q + 1) n h in omega arith

kept_before_fade : (p : ℕ) (es : List Event) → Keeps p (es ++ (fade ∷ [])) → Keeps p es
kept_before_fade p [] h = h
kept_before_fade p (put a b ∷ es) h = kept_before_fade p es h
kept_before_fade p (keep q ∷ es) (inl same) = inl same
kept_before_fade p (keep q ∷ es) (inr h) = inr (kept_before_fade p es h)
kept_before_fade p (recall q ∷ es) h = kept_before_fade p es h
kept_before_fade p (fade ∷ es) h = kept_before_fade p es h

abbrev Allowed : Kind → State → ℕ → Type 0
Allowed k s p =
    ((next : ℕ) × ((s.power ≡ On (Storing next)) × (next ≤ p)))
    ⊎ ((s.power ≡ On Idle) × (s.written ≡ true) × (k.facts.power_store s.status_bits ≡ true))

saved_allowed : (k : Kind) (s : State) (y : Activity) → s.power ≡ On y → (p : ℕ) → Keeps p (saved k s y) → Allowed k s p
saved_allowed k s Idle on p =
    cond_both (s.written && k.facts.power_store s.status_bits) _ _ (λ es. Keeps p es → Allowed k s p)
    (λ both _. let parts = and_parts s.written _ both in inr (on, parts.0, parts.1)) (λ _ h. absurd h)
saved_allowed k s (Storing q) on p = λ h. inl (q, (on, kept_from p q (pages k - q) h))
saved_allowed k s (Recalling q) on p = λ h. absurd h
saved_allowed k s (Waking q) on p = λ h. absurd h

cut_allowed : (k : Kind) (s : State) (y : Activity) → s.power ≡ On y → (charged : Bool) (p : ℕ) → Keeps p (cut_events k s y charged)
    → (charged ≡ true) × Allowed k s p
cut_allowed k s y on true p h = (refl, saved_allowed k s y on p (kept_before_fade p (saved k s y) h))
cut_allowed k s y on false p h = absurd h

live_cut_allowed : (k : Kind) (s : State) (q : Power) → s.power ≡ q → (charged : Bool) (p : ℕ) → Keeps p (live_call k s q (Cut charged)).events
    → (charged ≡ true) × Allowed k s p
live_cut_allowed k s Off is charged p h = absurd h
live_cut_allowed k s (On y) is charged p h = cut_allowed k s y is charged p h

pub no_other_cut_keeps : NoOtherCutKeeps
unfolding step
no_other_cut_keeps k s charged p =
    cond_both (alive k) _ _ (λ (o : Out). Keeps p o.events → (charged ≡ true) × Allowed k s p)
    (λ _. live_cut_allowed k s s.power refl charged p) (λ _ h. absurd h)

pub idle_cut_keeps : IdleCutKeepsEveryPage
idle_cut_keeps k s live on written store =
    ap (λ (o : Out). o.events) (step_on k s Idle (Cut true) live on)
    ∙ ap (λ es. es ++ (fade ∷ [])) (cond-true (s.written && k.facts.power_store s.status_bits) _ _ (ap₂ (λ x y. x && y) written store))

pub recall_goes_on : ProtectionDoesNotHoldBackARecall
recall_goes_on k s p live = (
  (λ on. ap (λ (o : Out). o.events) (step_on k s (Recalling p) Tick live on)),
  (λ on. ap (λ (o : Out). o.events) (step_on k s (Waking p) Tick live on)),
)

module _ (k : Kind) (s : State) where
  abbrev Same : Out → Type 0
  Same o = o.state.failed ≡ s.failed

  byte_leaves : (y : Activity) (b : ℕ) (held : Bool) → Same (on_byte k s y (selected reading_status) b held)
  byte_leaves y b true = refl
  byte_leaves y b false = refl

  release_leaves : (clocks : ℕ) → Same (on_release k s (selected reading_status) clocks)
  release_leaves clocks = cond_both (ltb 7 clocks) _ _ Same (λ _. refl) (λ _. refl)

  module _ (reads : s.selection ≡ selected reading_status) where
    live_byte_leaves : (p : Power) (b : ℕ) (held : Bool) → Same (live_call k s p (Byte b held))
    live_byte_leaves Off b held = refl
    live_byte_leaves (On y) b held = subst (λ x. Same (on_byte k s y x b held)) (sym reads) (byte_leaves y b held)

    live_release_leaves : (p : Power) (clocks : ℕ) → Same (live_call k s p (Release clocks))
    live_release_leaves Off clocks = refl
    live_release_leaves (On y) clocks = subst (λ x. Same (on_release k s x clocks)) (sym reads) (release_leaves clocks)

pub fail_mark_stays : ReadingStatusDoesNotClearTheFailMark
unfolding step
fail_mark_stays k s reads = (
  (λ b held. cond_both (alive k) _ _ (Same k s) (λ _. live_byte_leaves k s reads s.power b held) (λ _. refl)),
  (λ clocks. cond_both (alive k) _ _ (Same k s) (λ _. live_release_leaves k s reads s.power clocks) (λ _. refl)),
)

-- ---- one promised byte

-- Two splits of a list are the same one, or the one is further in than the other.
record Within (inner outer : List Event) (e : Event) : Type 0 where
  rest : List Event
  split : outer ≡ inner ++ (e ∷ rest)

splits : (xs ys us vs : List Event) (e f : Event) → xs ++ (e ∷ us) ≡ ys ++ (f ∷ vs) → (e ≡ f) ⊎ (Within xs ys e ⊎ Within ys xs f)
splits [] [] us vs e f same = inl cc
splits [] (y ∷ ys) us vs e f same = inr (inl (record { rest = ys; split = (let h : e ≡ y = cc in ap (λ z. z ∷ ys) (sym h)) }))
splits (x ∷ xs) [] us vs e f same = inr (inr (record { rest = xs; split = (let h : x ≡ f = cc in ap (λ z. z ∷ xs) h) }))
splits (x ∷ xs) (y ∷ ys) us vs e f same =
    let head : x ≡ y = cc in
    elim (splits xs ys us vs e f (cc)) [
      | inl h ↦ inl h
      | inr (inl w) ↦ inr (inl (record { rest = w.rest; split = ap (λ z. z ∷ ys) (sym head) ∙ ap (λ z. x ∷ z) w.split }))
      | inr (inr w) ↦ inr (inr (record { rest = w.rest; split = ap (λ z. z ∷ xs) head ∙ ap (λ z. y ∷ z) w.split }))
    ]

same_byte : (a b c : ℕ) → put a b ≡ put a c → b ≡ c
same_byte a b c e = cc

last_is_one : (lasting : Bool) (a b c : ℕ) (t : List Event) → LastPromised lasting a t b → LastPromised lasting a t c → b ≡ c
last_is_one lasting a b c t l m =
    elim (splits l.behind m.behind l.before m.before (put a b) (put a c) (sym l.split ∙ m.split)) [
      | inl e ↦ same_byte a b c e
      | inr (inl w) ↦ absurd (m.last l.behind w.rest b w.split l.promised)
      | inr (inr w) ↦ absurd (l.last m.behind w.rest c w.split m.promised)
    ]

promised_is_one : (lasting : Bool) (first : List ℕ) (a : ℕ) (t : List Event) (b c : ℕ)
    → PromisedByte lasting first a t b → PromisedByte lasting first a t c → b ≡ c
promised_is_one lasting first a t b c (inl l) (inl m) = last_is_one lasting a b c t l m
promised_is_one lasting first a t b c (inl l) (inr n) = absurd (n.0 l.behind l.before b l.split l.promised)
promised_is_one lasting first a t b c (inr n) (inl m) = absurd (n.0 m.behind m.before c m.split m.promised)
promised_is_one lasting first a t b c (inr n) (inr o) = n.1 ∙ sym o.1

pub one_promised_byte : EachAddressHasOnePromisedByte
one_promised_byte lasting first a t = (
  promised lasting first a t,
  (
    promised_is lasting first a t,
    λ c p. promised_is_one lasting first a t c _ p (promised_is lasting first a t),
  ),
)

-- ---- one current byte

standing_no_put : (a b : ℕ) (newer older behind : List Event) → behind ≡ newer ++ (put a b ∷ older) → Standing a behind → ⊥
standing_no_put a b [] older behind e q = (subst (Standing a) e q).0 refl
standing_no_put a b (x ∷ newer) older behind e q =
    standing_no_put a b newer older (newer ++ (put a b ∷ older)) refl (subst (Standing a) e q).1

put_is_one : (a b c : ℕ) (t : List Event) → PutSinceRecall a t b → PutSinceRecall a t c → b ≡ c
put_is_one a b c t l m =
    elim (splits l.behind m.behind l.before m.before (put a b) (put a c) (sym l.split ∙ m.split)) [
      | inl e ↦ same_byte a b c e
      | inr (inl w) ↦ absurd (standing_no_put a b l.behind w.rest m.behind w.split m.standing)
      | inr (inr w) ↦ absurd (standing_no_put a c m.behind w.rest l.behind w.split l.standing)
    ]

current_is_one : (lasting : Bool) (first : List ℕ) (a : ℕ) (t : List Event) (b c : ℕ)
    → CurrentByte lasting first a t b → CurrentByte lasting first a t c → b ≡ c
current_is_one lasting first a t b c (inl l) (inl m) = put_is_one a b c t l m
current_is_one lasting first a t b c (inl l) (inr n) = absurd (n.0 b l)
current_is_one lasting first a t b c (inr n) (inl m) = absurd (n.0 c m)
current_is_one lasting first a t b c (inr n) (inr o) = promised_is_one lasting first a t b c n.1 o.1

-- whether a byte was put since the last recall
abbrev Found : ℕ → List Event → Type 0
Found a t = ((b : ℕ) × PutSinceRecall a t b) ⊎ ((c : ℕ) → PutSinceRecall a t c → ⊥)

-- an event that parts nothing from a leaves that as it was
found_more : (a : ℕ) (e : Event) (t : List Event) → (Supersedes a e → ⊥) → ((c : ℕ) → e ≡ put a c → ⊥) → Found a t → Found a (e ∷ t)
found_more a e t apart other (inl (b, p)) =
    inl (b, record { behind = e ∷ p.behind; before = p.before; split = ap (λ x. e ∷ x) p.split; standing = (apart, p.standing) })
found_more a e t apart other (inr none) = inr (λ c p. less c p.behind p.before p.split p.standing)
  where
    less : (c : ℕ) (behind before : List Event) → (e ∷ t) ≡ behind ++ (put a c ∷ before) → Standing a behind → ⊥
    less c [] before split standing = other c cc
    less c (x ∷ behind) before split standing = none c (record { behind = behind; before = before; split = cc; standing = standing.1 })

found : (a : ℕ) (t : List Event) → Found a t
found a [] = inr (λ c p. not_nil (put a c) p.behind p.before p.split)
found a (put x b ∷ t) =
    elim (cases_eq x a) [
      | inl same ↦ inl (b, record { behind = []; before = t; split = ap (λ y. put y b ∷ t) same; standing = tt })
      | inr other ↦ found_more a (put x b) t other (λ c e. other cc) (found a t)
    ]
found a (keep p ∷ t) = found_more a (keep p) t (λ x. x) (λ c e. let z : ◌≡◌ {A = ℕ} 0 1 = cc in omega arith) (found a t)
found a (recall p ∷ t) =
    elim (cases_eq p (a / 64)) [
      | inl same ↦ inr (λ c q. recalled c q.behind q.before q.split q.standing same)
      | inr other ↦ found_more a (recall p) t other (λ c e. let z : ◌≡◌ {A = ℕ} 0 1 = cc in omega arith) (found a t)
    ]
  where
    recalled : (c : ℕ) (behind before : List Event) → (recall p ∷ t) ≡ behind ++ (put a c ∷ before) → Standing a behind → p ≡ a / 64 → ⊥
    recalled c [] before split standing same = let z : ◌≡◌ {A = ℕ} 0 1 = cc in omega arith
    recalled c (x ∷ behind) before split standing same =
        let head : recall p ≡ x = cc in
        subst (λ e. Supersedes a e → ⊥) (sym head) standing.0 same
found a (fade ∷ t) = found_more a fade t (λ x. x) (λ c e. let z : ◌≡◌ {A = ℕ} 0 1 = cc in omega arith) (found a t)

current_is : (lasting : Bool) (first : List ℕ) (a : ℕ) (t : List Event) → Found a t → (b : ℕ) × CurrentByte lasting first a t b
current_is lasting first a t (inl (b, p)) = (b, inl p)
current_is lasting first a t (inr none) = (promised lasting first a t, inr (none, promised_is lasting first a t))

pub one_current_byte : EachAddressHasOneCurrentByte
one_current_byte lasting first a t =
    let is = current_is lasting first a t (found a t) in
    (is.0, (is.1, λ c p. current_is_one lasting first a t c is.0 p is.1))

-- ---- the promises leave no choice of images

pub kept_is_pinned : PromisesPinTheKeptImage
kept_is_pinned k first some other same p q a lt =
    promised_is_one k.lasting first.kept a (trail k (calls_of other)) _ _
    (subst (λ cs. PromisedByte k.lasting first.kept a (trail k cs) (get_or (images_after first some).kept a 0)) same
    (p.kept_image_holds_promised_bytes a lt))
    (q.kept_image_holds_promised_bytes a lt)

pub working_is_pinned : PromisesPinTheIdleWorkingImage
working_is_pinned k first some other same p q idle a lt =
    current_is_one k.lasting first.kept a (trail k (calls_of other)) _ _
    (subst (λ cs. CurrentByte k.lasting first.kept a (trail k cs) (get_or (images_after first some).working a 0)) same
    (p.idle_working_image_is_current (ap (λ cs. (state_after k cs).power) same ∙ idle) a lt))
    (q.idle_working_image_is_current idle a lt)

pub waking_is_pinned : WakingLeavesTheKeptImage
waking_is_pinned k first before m page p tick was idle a lt =
    promised_is_one k.lasting first.kept a (trail k (calls_of (m ∷ before))) _ _
    (p.newest_call.ended_waking_leaves_promised_bytes (record { page = page; is_tick = tick; was_waking = was; is_idle = idle }) a lt)
    (p.kept_image_holds_promised_bytes a lt)
