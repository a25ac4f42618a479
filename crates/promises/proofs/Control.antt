-- Every history's control state and trail are sound: no page is kept while one of its bytes is lost, and no put lies where
-- it must not.
use Rattle.std.proofs.Common.{◌≡◌, ℕ, zero, suc, ◌+◌, ◌-◌, ◌*◌, ◌/◌, ◌<◌, Bool, true, false, cond, ◌&&◌, ltb, List, [], ◌∷◌, ◌++◌, sym, refl, ◌∙◌, subst, inl, inr, arith}
use Rattle.std.proofs.lemmas.Bool.{cases_eq, cond_both, ltb-false}
use Rattle.dialect.specs.Facts.{Lawful, Within}
use Rattle.rules.specs.declared.Activity.{Activity}
use Rattle.rules.specs.declared.Activity.TheVariants.{Idle, Storing, Recalling, Waking}
use Rattle.rules.specs.declared.Power.{Power}
use Rattle.rules.specs.declared.Power.TheVariants.{Off, On}
use Rattle.rules.specs.declared.Call.{Call}
use Rattle.rules.specs.declared.Call.TheVariants.{Select, Byte, Release, Tick, Cut, PowerUp}
use Rattle.rules.specs.Kind.{Kind, alive, pages}
use Rattle.rules.specs.State.{State, with_selection, Selection, unselected, selected, Phase, opcode, turned_away, command, reading_status, writing_status, address, reading, reading_secure, writing_paged, writing_direct, frame, frame_too_long, Event, put, keep, recall, fade}
use Rattle.rules.specs.Byte.{heard}
use Rattle.rules.specs.Release.{ended}
use Rattle.rules.specs.Power.{keeps, saved, cut_events}
use Rattle.rules.specs.Step.{Out, step, on_select, on_byte, on_release, on_tick, on_call, off_call, live_call}
use Rattle.rules.specs.History.{state_after, onto, trail}
use Rattle.promises.specs.Promises.{Puts}
use Rattle.promises.proofs.Marks.{fresh, clean, lost, mark, if_same, if_other, fresh_not_lost, clean_not_lost}
use Rattle.promises.proofs.Data.{Fair}
use Rattle.promises.proofs.Phases.{InPhase, InSelection, heard_phase}
use Rattle.promises.proofs.Puts.{AllPuts, none_put, heard_free, heard_enabled, Powered, same, stores, recalls, ended_fine, ended_enabled}

-- none of the first m pages has a lost byte
abbrev pub Live : ℕ → List Event → Type 0
Live m t = (a : ℕ) → a < 64 * m → mark a t ≡ lost → ⊥

-- the first m pages are as recalled
abbrev pub Woken : ℕ → List Event → Type 0
Woken m t = (a : ℕ) → a < 64 * m → mark a t ≡ clean

-- what the power says of the trail: once woken, no byte is lost; while waking the pages before the next are as recalled
abbrev pub LiveFor : ℕ → Power → List Event → Type 0
LiveFor n Off t = Unit {0}
LiveFor n (On Idle) t = Live n t
LiveFor n (On (Storing p)) t = Live n t
LiveFor n (On (Recalling p)) t = Live n t
LiveFor n (On (Waking p)) t = Woken p t

pub record Sound (k : Kind) (s : State) (t : List Event) : Type 0 where
  pub phase : InSelection k s.power s.latch s.selection
  pub bits : Within k.facts s.status_bits
  pub live : LiveFor (pages k) s.power t
  pub fair : Fair (pages k) t

-- ---- events on a live trail

live_put : (m x b : ℕ) (t : List Event) → Live m t → Live m (put x b ∷ t)
live_put m x b t l a lt gone =
    elim (cases_eq x a) [
      | inl there ↦ fresh_not_lost _ b (if_same x a (fresh b) (mark a t) there) gone
      | inr other ↦ l a lt (sym (if_other x a (fresh b) (mark a t) other) ∙ gone)
    ]

live_recall : (m p : ℕ) (t : List Event) → Live m t → Live m (recall p ∷ t)
live_recall m p t l a lt gone =
    elim (cases_eq p (a / 64)) [
      | inl there ↦ clean_not_lost _ (if_same p (a / 64) clean (mark a t) there) gone
      | inr other ↦ l a lt (sym (if_other p (a / 64) clean (mark a t) other) ∙ gone)
    ]

pub woken_more : (p : ℕ) (t : List Event) → Woken p t → Woken (p + 1) (recall p ∷ t)
woken_more p t w a lt =
    elim (cases_eq p (a / 64)) [
      | inl there ↦ if_same p (a / 64) clean (mark a t) there
      | inr other ↦ if_other p (a / 64) clean (mark a t) other ∙ w a (omega arith)
    ]

puts_live : (m : ℕ) (es t : List Event) → AllPuts es → Live m t → Live m (onto es t)
puts_live m [] t h l = l
puts_live m (put a b ∷ es) t h l = puts_live m es (put a b ∷ t) h (live_put m a b t l)
puts_live m (keep p ∷ es) t h l = absurd h
puts_live m (recall p ∷ es) t h l = absurd h
puts_live m (fade ∷ es) t h l = absurd h

puts_fair : (n : ℕ) (es t : List Event) → AllPuts es → Fair n t → Fair n (onto es t)
puts_fair n [] t h f = f
puts_fair n (put a b ∷ es) t h f = puts_fair n es (put a b ∷ t) h f
puts_fair n (keep p ∷ es) t h f = absurd h
puts_fair n (recall p ∷ es) t h f = absurd h
puts_fair n (fade ∷ es) t h f = absurd h

off_not_idle : Off ≡ On Idle → ⊥
off_not_idle e = let z : ◌≡◌ {A = ℕ} 0 1 = cc in omega arith

storing_not_idle : (p : ℕ) → On (Storing p) ≡ On Idle → ⊥
storing_not_idle p e = let z : ◌≡◌ {A = ℕ} 0 1 = cc in omega arith

recalling_not_idle : (p : ℕ) → On (Recalling p) ≡ On Idle → ⊥
recalling_not_idle p e = let z : ◌≡◌ {A = ℕ} 0 1 = cc in omega arith

waking_not_idle : (p : ℕ) → On (Waking p) ≡ On Idle → ⊥
waking_not_idle p e = let z : ◌≡◌ {A = ℕ} 0 1 = cc in omega arith

-- puts come only in an idle part
puts_live_for : (n : ℕ) (p : Power) (es t : List Event) → AllPuts es → ((a b : ℕ) → Puts a b es → p ≡ On Idle)
    → LiveFor n p t → LiveFor n p (onto es t)
puts_live_for n Off es t h idle l = tt
puts_live_for n (On Idle) es t h idle l = puts_live n es t h l
puts_live_for n (On (Storing p)) es t h idle l = puts_live n es t h l
puts_live_for n (On (Recalling p)) es t h idle l = puts_live n es t h l
puts_live_for n (On (Waking p)) es t h idle l =
    subst (λ fs. Woken p (onto fs t)) (sym (none_put es h (λ a b q. waking_not_idle p (idle a b q)))) l

keeps_fair : (n m p : ℕ) (t : List Event) → Live n t → Fair n t → Fair n (onto (keeps p m) t)
keeps_fair n zero p t l f = f
keeps_fair n (suc m) p t l f = keeps_fair n m (p + 1) (keep p ∷ t) l ((λ a lt _. l a lt), f)

pub onto_append : (es fs t : List Event) → onto (es ++ fs) t ≡ onto fs (onto es t)
onto_append [] fs t = refl
onto_append (e ∷ es) fs t = onto_append es fs (e ∷ t)

-- ---- phases

-- where the part is not idle, the phase says nothing of power and latch
loose_phase : (k : Kind) (p q : Power) (l m : Bool) (ph : Phase) → (p ≡ On Idle → ⊥) → InPhase k p l ph → InPhase k q m ph
loose_phase k p q l m opcode busy h = tt
loose_phase k p q l m (turned_away r w) busy h = tt
loose_phase k p q l m (command i followed) busy h = absurd (busy h)
loose_phase k p q l m reading_status busy h = tt
loose_phase k p q l m (writing_status n first) busy h = absurd (busy h.0)
loose_phase k p q l m (address i bytes) busy h = absurd (busy h.0)
loose_phase k p q l m (reading a) busy h = absurd (busy h.0)
loose_phase k p q l m (reading_secure a n) busy h = absurd (busy h.0)
loose_phase k p q l m (writing_paged page first held blocked any) busy h = absurd (busy h.0)
loose_phase k p q l m (writing_direct a blocked any) busy h = absurd (busy h.0)
loose_phase k p q l m (frame bytes) busy h = absurd (busy h.0)
loose_phase k p q l m frame_too_long busy h = absurd (busy h)

loose : (k : Kind) (p q : Power) (l m : Bool) (x : Selection) → (p ≡ On Idle → ⊥) → InSelection k p l x → InSelection k q m x
loose k p q l m unselected busy h = tt
loose k p q l m (selected ph) busy h = loose_phase k p q l m ph busy h

-- ---- one call

abbrev After : Kind → Out → List Event → Type 0
After k o t = Sound k o.state (onto o.events t)

module _ (k : Kind) (law : Lawful k.facts) (live : alive k ≡ true) (s : State) (t : List Event) (o : Sound k s t) where
  select_sound : (x : Selection) → After k (on_select s x) t
  select_sound unselected = record { phase = tt; bits = o.bits; live = o.live; fair = o.fair }
  select_sound (selected ph) = o

  byte_sound : (y : Activity) → s.power ≡ On y → (x : Selection) → s.selection ≡ x → (b : ℕ) (held : Bool) → After k (on_byte k s y x b held) t
  byte_sound y on unselected is b held = o
  byte_sound y on (selected ph) is b true = o
  byte_sound y on (selected ph) is b false =
      let h : InPhase k (On y) s.latch ph = subst (λ p. InPhase k p s.latch ph) on (subst (InSelection k s.power s.latch) is o.phase) in
      let free = heard_free k law live s o.bits y ph b h in
      record {
        phase = subst (λ p. InPhase k p s.latch (heard k s y ph b).phase) (sym on) (heard_phase k law live s y ph b h);
        bits = o.bits;
        live = puts_live_for (pages k) s.power (heard k s y ph b).events t free.all_puts
            (λ a c q. on ∙ (heard_enabled k law live s o.bits y ph b h a c q).0) o.live;
        fair = puts_fair (pages k) (heard k s y ph b).events t free.all_puts o.fair;
      }

  released_live : (p q : Power) (es : List Event) → AllPuts es → ((a b : ℕ) → Puts a b es → p ≡ On Idle) → Powered k law live (with_selection unselected s) o.bits p q → LiveFor (pages k) p t → LiveFor (pages k) q (onto es t)
  released_live p q es h idle same l = puts_live_for (pages k) p es t h idle l
  released_live p q es h idle (stores is) l = puts_live (pages k) es t h (subst (λ x. LiveFor (pages k) x t) is l)
  released_live p q es h idle (recalls is) l = puts_live (pages k) es t h (subst (λ x. LiveFor (pages k) x t) is l)

  release_sound : (x : Selection) → s.selection ≡ x → (clocks : ℕ) → After k (on_release k s x clocks) t
  release_sound unselected is clocks = o
  release_sound (selected ph) is clocks =
      let h = subst (InSelection k s.power s.latch) is o.phase in
      let fine = ended_fine k law live (with_selection unselected s) o.bits ph clocks h in
      cond_both (ltb 7 clocks) _ _ (λ out. After k out t) (λ _. o)
      (λ _. record {
        phase = tt;
        bits = fine.bits;
        live = released_live s.power (ended k (with_selection unselected s) ph clocks).state.power (ended k (with_selection unselected s) ph clocks).events fine.free.all_puts
            (λ a c q. (ended_enabled k law live (with_selection unselected s) o.bits ph clocks h a c q).0) fine.power o.live;
        fair = puts_fair (pages k) (ended k (with_selection unselected s) ph clocks).events t fine.free.all_puts o.fair;
      })

  tick_sound : (y : Activity) → s.power ≡ On y → After k (on_tick k s y) t
  tick_sound Idle on = o
  tick_sound (Storing p) on =
      let l : Live (pages k) t = subst (λ q. LiveFor (pages k) q t) on o.live in
      record {
        phase = loose k (On (Storing p)) _ s.latch s.latch s.selection (storing_not_idle p) (subst (λ q. InSelection k q s.latch s.selection) on o.phase);
        bits = o.bits;
        live = cond_both (ltb (p + 1) (pages k)) (Storing (p + 1)) Idle (λ y. LiveFor (pages k) (On y) (keep p ∷ t)) (λ _. l) (λ _. l);
        fair = ((λ a lt _. l a lt), o.fair);
      }
  tick_sound (Recalling p) on =
      let l : Live (pages k) (recall p ∷ t) = live_recall (pages k) p t (subst (λ q. LiveFor (pages k) q t) on o.live) in
      record {
        phase = loose k (On (Recalling p)) _ s.latch s.latch s.selection (recalling_not_idle p) (subst (λ q. InSelection k q s.latch s.selection) on o.phase);
        bits = o.bits;
        live = cond_both (ltb (p + 1) (pages k)) (Recalling (p + 1)) Idle (λ y. LiveFor (pages k) (On y) (recall p ∷ t)) (λ _. l) (λ _. l);
        fair = o.fair;
      }
  tick_sound (Waking p) on =
      let w : Woken (p + 1) (recall p ∷ t) = woken_more p t (subst (λ q. LiveFor (pages k) q t) on o.live) in
      record {
        phase = loose k (On (Waking p)) _ s.latch s.latch s.selection (waking_not_idle p) (subst (λ q. InSelection k q s.latch s.selection) on o.phase);
        bits = o.bits;
        live = cond_both (ltb (p + 1) (pages k)) (Waking (p + 1)) Idle (λ y. LiveFor (pages k) (On y) (recall p ∷ t)) (λ _. w)
            (λ last a lt gone. clean_not_lost _ (w a (omega (arith, ltb-false (p + 1) (pages k) last))) gone);
        fair = o.fair;
      }

  -- a charged cut keeps only while no byte is lost
  saved_fair : (y : Activity) → s.power ≡ On y → Fair (pages k) (onto (saved k s y) t)
  saved_fair Idle on =
      cond_both (s.written && k.facts.power_store s.status_bits) _ _ (λ es. Fair (pages k) (onto es t))
      (λ _. keeps_fair (pages k) (pages k) 0 t (subst (λ q. LiveFor (pages k) q t) on o.live) o.fair) (λ _. o.fair)
  saved_fair (Storing p) on = keeps_fair (pages k) (pages k - p) p t (subst (λ q. LiveFor (pages k) q t) on o.live) o.fair
  saved_fair (Recalling p) on = o.fair
  saved_fair (Waking p) on = o.fair

  cut_fair : (y : Activity) → s.power ≡ On y → (charged : Bool) → Fair (pages k) (onto (cut_events k s y charged) t)
  cut_fair y on charged =
      subst (Fair (pages k)) (sym (onto_append (cond charged (saved k s y) []) (fade ∷ []) t))
      (cond_both charged _ _ (λ es. Fair (pages k) (onto es t)) (λ _. saved_fair y on) (λ _. o.fair))

  call_sound : (y : Activity) → s.power ≡ On y → (c : Call) → After k (on_call k s y c) t
  call_sound y on Select = select_sound s.selection
  call_sound y on (Byte b held) = byte_sound y on s.selection refl b held
  call_sound y on (Release clocks) = release_sound s.selection refl clocks
  call_sound y on Tick = tick_sound y on
  call_sound y on (Cut charged) = record { phase = tt; bits = o.bits; live = tt; fair = cut_fair y on charged }
  call_sound y on PowerUp = o

  off_sound : s.power ≡ Off → (c : Call) → After k (off_call s c) t
  off_sound off Select = o
  off_sound off (Byte b held) = o
  off_sound off (Release clocks) = o
  off_sound off Tick = o
  off_sound off (Cut charged) = o
  off_sound off PowerUp = record {
    phase = loose k Off _ s.latch false s.selection off_not_idle (subst (λ q. InSelection k q s.latch s.selection) off o.phase);
    bits = o.bits;
    live = λ a lt. absurd (let n : ⊥ = omega arith in n);
    fair = o.fair;
  }

  live_sound : (p : Power) → s.power ≡ p → (c : Call) → After k (live_call k s p c) t
  live_sound Off is c = off_sound is c
  live_sound (On y) is c = call_sound y is c

step_sound : (k : Kind) → Lawful k.facts → (s : State) (t : List Event) → Sound k s t → (c : Call) → After k (step k s c) t
unfolding step
step_sound k law s t o c =
    cond_both (alive k) _ _ (λ out. After k out t) (λ live. live_sound k law live s t o s.power refl c) (λ _. o)

pub history_sound : (k : Kind) → Lawful k.facts → (calls : List Call) → Sound k (state_after k calls) (trail k calls)
history_sound k law [] = record { phase = tt; bits = refl; live = tt; fair = tt }
history_sound k law (c ∷ calls) = step_sound k law (state_after k calls) (trail k calls) (history_sound k law calls) c
