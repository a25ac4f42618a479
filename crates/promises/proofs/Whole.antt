-- The promises at every moment of every run.
use Rattle.std.proofs.Common.{◌≡◌, ℕ, ◌+◌, ◌*◌, ◌<◌, Bool, true, false, cond, ltb, List, [], ◌∷◌, get_or, Some, sym, refl, ap, ◌∙◌, subst, inl, inr, arith}
use Rattle.std.proofs.lemmas.Bool.{cond-false, cases_Bool, ltb-false}
use Rattle.cells.specs.Images.{Images}
use Rattle.dialect.specs.Facts.{Lawful}
use Rattle.dialect.specs.Sizes.{whole_256s}
use Rattle.rules.specs.declared.Activity.{Activity}
use Rattle.rules.specs.declared.Activity.TheVariants.{Idle, Waking}
use Rattle.rules.specs.declared.Power.TheVariants.{Off, On}
use Rattle.rules.specs.declared.Call.{Call}
use Rattle.rules.specs.declared.Call.TheVariants.{Tick}
use Rattle.rules.specs.Kind.{Kind, alive, pages}
use Rattle.rules.specs.State.{State, made, Event, cell}
use Rattle.rules.specs.Step.{Out, step}
use Rattle.rules.specs.Machine.{Moment, Changes, driven}
use Rattle.rules.specs.History.{state_after, after, onto, trail, calls_of, images_after, Run, Throughout}
use Rattle.rules.specs.Trail.{PromisedByte, PutSinceRecall, CurrentByte}
use Rattle.promises.specs.Promises.{EndsWaking, NewestCall, Promises, PromisesHold}
use Rattle.promises.proofs.Marks.{Mark, fresh, clean, lost, mark, promised, fresh_put_since_recall, clean_not_put_since_recall}
use Rattle.promises.proofs.Law.{promised_is}
use Rattle.promises.proofs.Data.{Leads, Long, Agrees, Stands, stands}
use Rattle.promises.proofs.Puts.{alive_is}
use Rattle.promises.proofs.Control.{Live, LiveFor, Woken, woken_more, history_sound}
use Rattle.promises.proofs.Calls.{step_allowed, step_readable, history_latched}
use Rattle.promises.proofs.Frames.{step_on, frames_hold}

-- ---- the images of a run follow from its trail

leads_onto : (k : Kind) (first : Images) (es t : List Event) (i j : Images) → Leads k first t i → Changes k es i j → Leads k first (onto es t) j
leads_onto k first [] t i j l c = subst (Leads k first t) (sym c) l
leads_onto k first (e ∷ es) t i j l c = leads_onto k first es (e ∷ t) c.0 j (i, (l, c.1.0)) c.1.1

leads : (k : Kind) (first : Images) (ms : List Moment) → Run k first ms → Leads k first (trail k (calls_of ms)) (images_after first ms)
leads k first [] run = refl
leads k first (m ∷ ms) run =
    leads_onto k first (after k (calls_of ms) m.call).events (trail k (calls_of ms)) (images_after first ms) m.images
    (leads k first ms run.0) run.1.images

first_long : (k : Kind) → alive k ≡ true → (first : Images) (ms : List Moment) → Run k first ms → Long (pages k) first
first_long k live first [] run =
    let whole = whole_256s (alive_is k live) in
    record { working = omega (arith, run.0, whole); kept = omega (arith, run.1, whole) }
first_long k live first (m ∷ ms) run = first_long k live first ms run.0

-- ---- a dead part stays as it was made

dead_step : (k : Kind) (s : State) (c : Call) → alive k ≡ false → ((step k s c).state ≡ s) × ((step k s c).events ≡ [])
unfolding step
dead_step k s c dead = (ap (λ (o : Out). o.state) (cond-false (alive k) _ _ dead), ap (λ (o : Out). o.events) (cond-false (alive k) _ _ dead))

dead_state : (k : Kind) → alive k ≡ false → (calls : List Call) → state_after k calls ≡ made
dead_state k dead [] = refl
dead_state k dead (c ∷ calls) = (dead_step k (state_after k calls) c dead).0 ∙ dead_state k dead calls

dead_trail : (k : Kind) → alive k ≡ false → (calls : List Call) → trail k calls ≡ []
dead_trail k dead [] = refl
dead_trail k dead (c ∷ calls) = ap (λ es. onto es (trail k calls)) (dead_step k (state_after k calls) c dead).1 ∙ dead_trail k dead calls

off_not_on : (y : Activity) → Off ≡ On y → ⊥
off_not_on y e = let z : ◌≡◌ {A = ℕ} 0 1 = cc in omega arith

dead_off : (k : Kind) → alive k ≡ false → (calls : List Call) (y : Activity) → (state_after k calls).power ≡ On y → ⊥
dead_off k dead calls y e = off_not_on y (ap (λ (s : State). s.power) (sym (dead_state k dead calls)) ∙ e)

dead_image : (k : Kind) → alive k ≡ false → (first : Images) (ms : List Moment) → Run k first ms → images_after first ms ≡ first
dead_image k dead first ms run = subst (λ t. Leads k first t (images_after first ms)) (dead_trail k dead (calls_of ms)) (leads k first ms run)

-- ---- what stands at one moment

by_mark : (l : Bool) (first : List ℕ) (a w : ℕ) (t : List Event) (m : Mark) → mark a t ≡ m → (m ≡ lost → ⊥)
    → Agrees m (promised l first a t) w → CurrentByte l first a t w
by_mark l first a w t (fresh b) e live agrees = inl (subst (PutSinceRecall a t) (sym agrees) (fresh_put_since_recall a b t e))
by_mark l first a w t clean e live agrees =
    inr ((λ c s. clean_not_put_since_recall a c t e s), subst (PromisedByte l first a t) (sym agrees) (promised_is l first a t))
by_mark l first a w t lost e live agrees = absurd (live refl)

module _ (k : Kind) (law : Lawful k.facts) (first : Images) where
  size_pages : alive k ≡ true → k.size ≡ 64 * pages k
  size_pages live = let whole = whole_256s (alive_is k live) in omega (arith, whole)

  stands_now : alive k ≡ true → (ms : List Moment) → Run k first ms → (a : ℕ) → a < k.size
      → Stands k.lasting first.kept a (trail k (calls_of ms)) (images_after first ms)
  stands_now live ms run a lt =
      stands k first (first_long k live first ms run) a (omega (arith, size_pages live)) lt (trail k (calls_of ms)) (images_after first ms)
      (history_sound k law (calls_of ms)).fair (leads k first ms run)

  kept_now : (ms : List Moment) → Run k first ms → (a : ℕ) → a < k.size
      → PromisedByte k.lasting first.kept a (trail k (calls_of ms)) (get_or (images_after first ms).kept a 0)
  kept_now ms run a lt =
      elim (cases_Bool (alive k)) [
        | inl live ↦ subst (PromisedByte k.lasting first.kept a (trail k (calls_of ms))) (sym (stands_now live ms run a lt).kept) (promised_is _ _ a _)
        | inr dead ↦ (
            subst (λ (i : Images). PromisedByte k.lasting first.kept a (trail k (calls_of ms)) (get_or i.kept a 0)) (sym (dead_image k dead first ms run))
            (subst (λ t. PromisedByte k.lasting first.kept a t (get_or first.kept a 0)) (sym (dead_trail k dead (calls_of ms))) (promised_is k.lasting first.kept a [])))
      ]

  current_now : (ms : List Moment) → Run k first ms → (state_after k (calls_of ms)).power ≡ On Idle → (a : ℕ) → a < k.size
      → CurrentByte k.lasting first.kept a (trail k (calls_of ms)) (get_or (images_after first ms).working a 0)
  current_now ms run idle a lt =
      elim (cases_Bool (alive k)) [
        | inl live ↦ (
            let sound = history_sound k law (calls_of ms) in
            let l : Live (pages k) (trail k (calls_of ms)) = subst (λ p. LiveFor (pages k) p (trail k (calls_of ms))) idle sound.live in
            by_mark _ _ a _ _ (mark a (trail k (calls_of ms))) refl (l a (omega (arith, size_pages live))) (stands_now live ms run a lt).working)
        | inr dead ↦ absurd (dead_off k dead (calls_of ms) Idle idle)
      ]

  -- ---- the newest call

  waking_past : (p n : ℕ) (t : Bool) → ltb (p + 1) n ≡ t → On (cond t (Waking (p + 1)) Idle) ≡ On Idle → t ≡ false
  waking_past p n true is e = absurd (let z : ◌≡◌ {A = ℕ} 0 1 = cc in omega arith)
  waking_past p n false is e = refl

  woken : alive k ≡ true → (calls : List Call) (p : ℕ) → (state_after k calls).power ≡ On (Waking p) → (after k calls Tick).state.power ≡ On Idle
      → (a : ℕ) → a < k.size → mark a (trail k (Tick ∷ calls)) ≡ clean
  woken live calls p was is a lt =
      let now = step_on k (state_after k calls) (Waking p) Tick live was in
      let past : ltb (p + 1) (pages k) ≡ false =
      waking_past p (pages k) (ltb (p + 1) (pages k)) refl (sym (ap (λ (o : Out). o.state.power) now) ∙ is) in
      let before : Woken p (trail k calls) = subst (λ q. LiveFor (pages k) q (trail k calls)) was (history_sound k law calls).live in
      ap (λ (o : Out). mark a (onto o.events (trail k calls))) now
      ∙ woken_more p (trail k calls) before a (omega (arith, size_pages live, ltb-false (p + 1) (pages k) past))

  ended_waking : (ms : List Moment) (m : Moment) → Run k first (m ∷ ms) → EndsWaking k (calls_of ms) m.call → (a : ℕ) → a < k.size
      → PromisedByte k.lasting first.kept a (trail k (calls_of (m ∷ ms))) (get_or m.images.working a 0)
  ended_waking ms m run e a lt =
      elim (cases_Bool (alive k)) [
        | inl live ↦ (
            let is : mark a (trail k (calls_of (m ∷ ms))) ≡ clean =
            ap (λ c. mark a (trail k (c ∷ calls_of ms))) e.is_tick
            ∙ woken live (calls_of ms) e.page e.was_waking (ap (λ c. (after k (calls_of ms) c).state.power) (sym e.is_tick) ∙ e.is_idle) a lt in
            let agrees = subst (λ x. Agrees x (promised k.lasting first.kept a (trail k (calls_of (m ∷ ms)))) (get_or m.images.working a 0)) is
            (stands_now live (m ∷ ms) run a lt).working in
            subst (PromisedByte k.lasting first.kept a (trail k (calls_of (m ∷ ms)))) (sym agrees) (promised_is _ _ a _))
        | inr dead ↦ absurd (dead_off k dead (calls_of ms) (Waking e.page) e.was_waking)
      ]

  reads : (ms : List Moment) (m : Moment) → Run k first (m ∷ ms) → (a : ℕ) → (after k (calls_of ms) m.call).drive ≡ cell a
      → (b : ℕ) × ((m.drove ≡ Some b) × CurrentByte k.lasting first.kept a (trail k (calls_of (m ∷ ms))) b)
  reads ms m run a is =
      let sound = history_sound k law (calls_of ms) in
      let r = step_readable k (state_after k (calls_of ms)) sound.phase m.call a is in (
        get_or (images_after first ms).working a 0,
        (
          run.1.drove ∙ ap (driven k (images_after first ms).working) is,
          subst (λ es. CurrentByte k.lasting first.kept a (onto es (trail k (calls_of ms))) (get_or (images_after first ms).working a 0))
              (sym r.quiet) (current_now ms run.0 r.idle a r.there),
        ),
      )

  newest_now : (ms : List Moment) → Run k first ms → NewestCall k first ms
  newest_now [] run = tt
  newest_now (m ∷ ms) run =
      let sound = history_sound k law (calls_of ms) in
      record {
        ended_waking_leaves_promised_bytes = ended_waking ms m run;
        no_put_is_protected = λ a b p. (step_allowed k law (state_after k (calls_of ms)) (trail k (calls_of ms)) sound m.call a b p).unprotected;
        no_put_where_latch_was_clear = λ a b p.
            let allowed = step_allowed k law (state_after k (calls_of ms)) (trail k (calls_of ms)) sound m.call a b p in
            sym ((history_latched k (calls_of ms)).latch allowed.phase allowed.in_selection) ∙ allowed.enabled;
        driven_data_is_current = reads ms m run;
      }

  now : (ms : List Moment) → Run k first ms → Promises k first ms
  now ms run = record {
    kept_image_holds_promised_bytes = kept_now ms run;
    idle_working_image_is_current = current_now ms run;
    newest_call = newest_now ms run;
    frames = frames_hold k law first ms run;
  }

  throughout : (ms : List Moment) → Run k first ms → Throughout (Promises k first) ms
  throughout [] run = now [] run
  throughout (m ∷ ms) run = (now (m ∷ ms) run, throughout ms run.0)

pub promises_hold : PromisesHold
promises_hold k law first ms run = throughout k law first ms run
