-- What one call of a sound part lists and drives: its puts are free and enabled, and what it reads is there.
use Rattle.std.proofs.Common.{◌≡◌, ℕ, zero, suc, ◌+◌, ◌-◌, ◌*◌, ◌/◌, ◌%◌, ◌<◌, Bool, true, false, cond, ◌&&◌, eqb, ltb, List, [], ◌∷◌, ◌++◌, sym, refl, ◌∙◌, subst, inl, inr, arith}
use Rattle.std.proofs.lemmas.Bool.{cond_both}
use Rattle.refusal.specs.declared.Refusal.TheVariants.{Dead}
use Rattle.dialect.specs.Facts.{Lawful}
use Rattle.dialect.specs.Sizes.{whole_256s}
use Rattle.rules.specs.declared.Activity.{Activity}
use Rattle.rules.specs.declared.Activity.TheVariants.{Idle, Storing, Recalling, Waking}
use Rattle.rules.specs.declared.Power.{Power}
use Rattle.rules.specs.declared.Power.TheVariants.{Off, On}
use Rattle.rules.specs.declared.Call.{Call}
use Rattle.rules.specs.declared.Call.TheVariants.{Select, Byte, Release, Tick, Cut, PowerUp}
use Rattle.rules.specs.Kind.{Kind, alive, pages, protected}
use Rattle.rules.specs.State.{State, with_selection, Selection, unselected, selected, Phase, opcode, turned_away, command, reading_status, writing_status, address, reading, reading_secure, writing_paged, writing_direct, frame, frame_too_long, Event, put, keep, recall, fade, Drive, undriven, cell}
use Rattle.rules.specs.Byte.{Heard, heard, secure_drive}
use Rattle.rules.specs.Write.{fills_page}
use Rattle.rules.specs.Power.{ticked, keeps, saved, cut_events}
use Rattle.rules.specs.Step.{Out, step, refusing, on_select, on_byte, on_release, on_tick, on_call, off_call, live_call}
use Rattle.rules.specs.History.{state_after, after}
use Rattle.promises.specs.Promises.{Puts, latch_at_select, latch_if_done}
use Rattle.promises.proofs.Phases.{InPhase, InSelection}
use Rattle.promises.proofs.Puts.{alive_is, heard_free, heard_enabled, ended_fine, ended_enabled}
use Rattle.promises.proofs.Control.{Sound}

-- ---- puts

-- a put is free of protection, with the latch set, in a selection
pub record Allowed (k : Kind) (s : State) (a : ℕ) : Type 0 where
  pub phase : Phase
  pub unprotected : protected k s.status_bits a ≡ false
  pub enabled : s.latch ≡ true
  pub in_selection : s.selection ≡ selected phase

abbrev AllAllowed : Kind → State → Out → Type 0
AllAllowed k s o = (a b : ℕ) → Puts a b o.events → Allowed k s a

no_puts_kept : (n p a b : ℕ) → Puts a b (keeps p n) → ⊥
no_puts_kept zero p a b h = h
no_puts_kept (suc n) p a b h = no_puts_kept n (p + 1) a b h

no_puts_behind : (a b : ℕ) (es : List Event) → (Puts a b es → ⊥) → Puts a b (es ++ (fade ∷ [])) → ⊥
no_puts_behind a b [] n h = h
no_puts_behind a b (put x y ∷ es) n (inl h) = n (inl h)
no_puts_behind a b (put x y ∷ es) n (inr h) = no_puts_behind a b es (λ q. n (inr q)) h
no_puts_behind a b (keep p ∷ es) n h = no_puts_behind a b es n h
no_puts_behind a b (recall p ∷ es) n h = no_puts_behind a b es n h
no_puts_behind a b (fade ∷ es) n h = no_puts_behind a b es n h

no_puts_saved : (k : Kind) (s : State) (y : Activity) (a b : ℕ) → Puts a b (saved k s y) → ⊥
no_puts_saved k s Idle a b =
    cond_both (s.written && k.facts.power_store s.status_bits) _ _ (λ es. Puts a b es → ⊥) (λ _. no_puts_kept (pages k) 0 a b) (λ _ h. h)
no_puts_saved k s (Storing p) a b = no_puts_kept (pages k - p) p a b
no_puts_saved k s (Recalling p) a b = λ h. h
no_puts_saved k s (Waking p) a b = λ h. h

no_puts_cut : (k : Kind) (s : State) (y : Activity) (charged : Bool) (a b : ℕ) → Puts a b (cut_events k s y charged) → ⊥
no_puts_cut k s y charged a b =
    no_puts_behind a b (cond charged (saved k s y) [])
    (cond_both charged _ _ (λ es. Puts a b es → ⊥) (λ _. no_puts_saved k s y a b) (λ _ h. h))

no_puts_tick : (k : Kind) (s : State) (y : Activity) (a b : ℕ) → Puts a b (ticked k s y).events → ⊥
no_puts_tick k s Idle a b h = h
no_puts_tick k s (Storing p) a b h = h
no_puts_tick k s (Recalling p) a b h = h
no_puts_tick k s (Waking p) a b h = h

module _ (k : Kind) (law : Lawful k.facts) (live : alive k ≡ true) (s : State) (t : List Event) (o : Sound k s t) where
  select_allowed : (x : Selection) → AllAllowed k s (on_select s x)
  select_allowed unselected a b h = absurd h
  select_allowed (selected ph) a b h = absurd h

  byte_allowed : (y : Activity) → s.power ≡ On y → (x : Selection) → s.selection ≡ x → (b : ℕ) (held : Bool) → AllAllowed k s (on_byte k s y x b held)
  byte_allowed y on unselected is b held a c q = absurd q
  byte_allowed y on (selected ph) is b true a c q = absurd q
  byte_allowed y on (selected ph) is b false a c q =
      let h : InPhase k (On y) s.latch ph = subst (λ p. InPhase k p s.latch ph) on (subst (InSelection k s.power s.latch) is o.phase) in
      record {
        phase = ph;
        unprotected = (heard_free k law live s o.bits y ph b h).unprotected a c q;
        enabled = (heard_enabled k law live s o.bits y ph b h a c q).1;
        in_selection = is;
      }

  release_allowed : (x : Selection) → s.selection ≡ x → (clocks : ℕ) → AllAllowed k s (on_release k s x clocks)
  release_allowed unselected is clocks a c = λ q. absurd q
  release_allowed (selected ph) is clocks a c =
      let h = subst (InSelection k s.power s.latch) is o.phase in
      cond_both (ltb 7 clocks) _ _ (λ (out : Out). Puts a c out.events → Allowed k s a) (λ _ q. absurd q)
      (λ _ q. record {
        phase = ph;
        unprotected = (ended_fine k law live (with_selection unselected s) o.bits ph clocks h).free.unprotected a c q;
        enabled = (ended_enabled k law live (with_selection unselected s) o.bits ph clocks h a c q).1;
        in_selection = is;
      })

  call_allowed : (y : Activity) → s.power ≡ On y → (c : Call) → AllAllowed k s (on_call k s y c)
  call_allowed y on Select = select_allowed s.selection
  call_allowed y on (Byte b held) = byte_allowed y on s.selection refl b held
  call_allowed y on (Release clocks) = release_allowed s.selection refl clocks
  call_allowed y on Tick = λ a b q. absurd (no_puts_tick k s y a b q)
  call_allowed y on (Cut charged) = λ a b q. absurd (no_puts_cut k s y charged a b q)
  call_allowed y on PowerUp = λ a b q. absurd q

  off_allowed : (c : Call) → AllAllowed k s (off_call s c)
  off_allowed Select a b q = absurd q
  off_allowed (Byte x held) a b q = absurd q
  off_allowed (Release clocks) a b q = absurd q
  off_allowed Tick a b q = absurd q
  off_allowed (Cut charged) a b q = absurd q
  off_allowed PowerUp a b q = absurd q

  live_allowed : (p : Power) → s.power ≡ p → (c : Call) → AllAllowed k s (live_call k s p c)
  live_allowed Off is c = off_allowed c
  live_allowed (On y) is c = call_allowed y is c

pub step_allowed : (k : Kind) → Lawful k.facts → (s : State) (t : List Event) → Sound k s t → (c : Call)
    → (a b : ℕ) → Puts a b (step k s c).events → Allowed k s a
unfolding step
step_allowed k law s t o c a b =
    cond_both (alive k) _ _ (λ (out : Out). Puts a b out.events → Allowed k s a)
    (λ live. live_allowed k law live s t o s.power refl c a b) (λ _ q. absurd q)

-- ---- reads

-- what a call reads is there in an idle part, and the call lists nothing
pub record Readable (k : Kind) (s : State) (es : List Event) (a : ℕ) : Type 0 where
  pub idle : s.power ≡ On Idle
  pub there : a < k.size
  pub quiet : es ≡ []

abbrev AllReadable : Kind → State → List Event → Drive → Type 0
AllReadable k s es d = (a : ℕ) → d ≡ cell a → Readable k s es a

no_cell : (k : Kind) (s : State) (es : List Event) → AllReadable k s es undriven
no_cell k s es a e = absurd (let z : ◌≡◌ {A = ℕ} 0 1 = cc in omega arith)

module _ (k : Kind) (live : alive k ≡ true) (s : State) where
  size_whole : k.size % 64 ≡ 0
  size_whole = let h = whole_256s (alive_is k live) in omega arith

  secure_readable : (y : ℕ) (n : ℕ) → s.power ≡ On Idle → y < k.size → AllReadable k s [] (secure_drive y n)
  secure_readable y n idle lt =
      cond_both (ltb n 64) _ _ (AllReadable k s [])
      (λ _ a e. record { idle = idle; there = (let same : 64 * (y / 64) + (y % 64 + n) % 64 ≡ a = cc in omega (arith, size_whole)); quiet = refl })
      (λ _. cond_both (eqb n 64) _ _ (AllReadable k s []) (λ _ a e. absurd (let z : ◌≡◌ {A = ℕ} 0 1 = cc in omega arith))
      (λ _. cond_both (eqb n 65) _ _ (AllReadable k s []) (λ _ a e. absurd (let z : ◌≡◌ {A = ℕ} 0 1 = cc in omega arith)) (λ _. no_cell k s [])))

  heard_readable : (x : Activity) → s.power ≡ On x → (ph : Phase) (b : ℕ) → InPhase k s.power s.latch ph
      → AllReadable k s (heard k s x ph b).events (heard k s x ph b).drive
  heard_readable x on opcode b h = no_cell k s _
  heard_readable x on (turned_away r w) b h = no_cell k s _
  heard_readable x on (command i followed) b h = no_cell k s _
  heard_readable x on reading_status b h = λ a e. absurd (let z : ◌≡◌ {A = ℕ} 0 1 = cc in omega arith)
  heard_readable x on (writing_status n first) b h = no_cell k s _
  heard_readable x on (address i bytes) b h = no_cell k s _
  heard_readable x on (reading y) b h = λ a e. record { idle = h.0; there = (let same : y ≡ a = cc in omega (arith, h.1)); quiet = refl }
  heard_readable x on (reading_secure y n) b h = secure_readable y n h.0 h.1
  heard_readable x on (writing_paged page first held blocked any) b h =
      cond_both (k.facts.runs_on s.status_bits && fills_page first held) _ _ (λ (o : Heard). AllReadable k s o.events o.drive) (λ _. no_cell k s _) (λ _. no_cell k s _)
  heard_readable x on (writing_direct y blocked any) b h =
      cond_both (protected k s.status_bits y) _ _ (λ (o : Heard). AllReadable k s o.events o.drive) (λ _. no_cell k s _) (λ _. no_cell k s _)
  heard_readable x on (frame bytes) b h = no_cell k s _
  heard_readable x on frame_too_long b h = no_cell k s _

  module _ (phase : InSelection k s.power s.latch s.selection) where
    select_readable : (x : Selection) → AllReadable k s (on_select s x).events (on_select s x).drive
    select_readable unselected = no_cell k s _
    select_readable (selected ph) = no_cell k s _

    byte_readable : (y : Activity) → s.power ≡ On y → (x : Selection) → s.selection ≡ x → (b : ℕ) (held : Bool)
        → AllReadable k s (on_byte k s y x b held).events (on_byte k s y x b held).drive
    byte_readable y on unselected is b held = no_cell k s _
    byte_readable y on (selected ph) is b true = no_cell k s _
    byte_readable y on (selected ph) is b false = heard_readable y on ph b (subst (InSelection k s.power s.latch) is phase)

    release_readable : (x : Selection) (clocks : ℕ) → AllReadable k s (on_release k s x clocks).events (on_release k s x clocks).drive
    release_readable unselected clocks = no_cell k s _
    release_readable (selected ph) clocks =
        cond_both (ltb 7 clocks) _ _ (λ (out : Out). AllReadable k s out.events out.drive) (λ _. no_cell k s _) (λ _. no_cell k s _)

    live_readable : (p : Power) → s.power ≡ p → (c : Call) → AllReadable k s (live_call k s p c).events (live_call k s p c).drive
    live_readable Off is Select = no_cell k s _
    live_readable Off is (Byte x held) = no_cell k s _
    live_readable Off is (Release clocks) = no_cell k s _
    live_readable Off is Tick = no_cell k s _
    live_readable Off is (Cut charged) = no_cell k s _
    live_readable Off is PowerUp = no_cell k s _
    live_readable (On y) is Select = select_readable s.selection
    live_readable (On y) is (Byte b held) = byte_readable y is s.selection refl b held
    live_readable (On y) is (Release clocks) = release_readable s.selection clocks
    live_readable (On y) is Tick = no_cell k s _
    live_readable (On y) is (Cut charged) = no_cell k s _
    live_readable (On y) is PowerUp = no_cell k s _

pub step_readable : (k : Kind) (s : State) → InSelection k s.power s.latch s.selection → (c : Call)
    → (a : ℕ) → (step k s c).drive ≡ cell a → Readable k s (step k s c).events a
unfolding step
step_readable k s phase c =
    cond_both (alive k) _ _ (λ (out : Out). AllReadable k s out.events out.drive)
    (λ live. live_readable k live s phase s.power refl c) (λ _. no_cell k s _)

-- ---- the latch at the last select

-- the latch at the last select behind a call and what came of it
abbrev chosen : Call → Out → Bool → Bool → Bool
chosen Select o now old = latch_if_done o.answer now old
chosen (Byte b held) o now old = old
chosen (Release clocks) o now old = old
chosen Tick o now old = old
chosen (Cut charged) o now old = old
chosen PowerUp o now old = old

chosen_is : (k : Kind) (calls : List Call) (c : Call)
    → latch_at_select k (c ∷ calls) ≡ chosen c (after k calls c) (state_after k calls).latch (latch_at_select k calls)
chosen_is k calls Select = refl
chosen_is k calls (Byte b held) = refl
chosen_is k calls (Release clocks) = refl
chosen_is k calls Tick = refl
chosen_is k calls (Cut charged) = refl
chosen_is k calls PowerUp = refl

-- a part that is off is not selected, and a selected one has the latch that it was selected with
pub record Latched (s : State) (at-select : Bool) : Type 0 where
  pub off : s.power ≡ Off → s.selection ≡ unselected
  pub latch : (ph : Phase) → s.selection ≡ selected ph → s.latch ≡ at-select

not_selected : (ph : Phase) → unselected ≡ selected ph → ⊥
not_selected ph e = let z : ◌≡◌ {A = ℕ} 0 1 = cc in omega arith

on_not_off : (y : Activity) → On y ≡ Off → ⊥
on_not_off y e = let z : ◌≡◌ {A = ℕ} 0 1 = cc in omega arith

ended_unselected : (at : Bool) (s : State) → s.selection ≡ unselected → Latched s at
ended_unselected at s e = record { off = λ _. e; latch = λ ph is. absurd (not_selected ph (sym e ∙ is)) }

module _ (k : Kind) (s : State) (old : Bool) (l : Latched s old) where
  Next : Call → Out → Type 0
  Next c o = Latched o.state (chosen c o s.latch old)

  select_latched : (x : Selection) → s.selection ≡ x → (y : Activity) → s.power ≡ On y → Next Select (on_select s x)
  unfolding Next
  select_latched unselected is y on = record { off = λ off. absurd (on_not_off y (sym on ∙ off)); latch = λ ph e. refl }
  select_latched (selected ph) is y on = l

  byte_latched : (y : Activity) → s.power ≡ On y → (x : Selection) → s.selection ≡ x → (b : ℕ) (held : Bool) → Next (Byte b held) (on_byte k s y x b held)
  unfolding Next
  byte_latched y on unselected is b held = l
  byte_latched y on (selected ph) is b true = l
  byte_latched y on (selected ph) is b false = record { off = λ off. absurd (on_not_off y (sym on ∙ off)); latch = λ q e. l.latch ph is }

  release_latched : (x : Selection) (clocks : ℕ) → Next (Release clocks) (on_release k s x clocks)
  unfolding Next
  release_latched unselected clocks = l
  release_latched (selected ph) clocks =
      cond_both (ltb 7 clocks) _ _ (λ (out : Out). Latched out.state old) (λ _. l) (λ _. ended_unselected old _ refl)

  tick_latched : (y : Activity) → s.power ≡ On y → Next Tick (on_tick k s y)
  unfolding Next
  tick_latched Idle on = l
  tick_latched (Storing p) on = record { off = λ off. absurd (on_not_off _ off); latch = l.latch }
  tick_latched (Recalling p) on = record { off = λ off. absurd (on_not_off _ off); latch = l.latch }
  tick_latched (Waking p) on = record { off = λ off. absurd (on_not_off _ off); latch = l.latch }

  live_latched : (p : Power) → s.power ≡ p → (c : Call) → Next c (live_call k s p c)
  unfolding Next
  live_latched Off is Select = l
  live_latched Off is (Byte b held) = l
  live_latched Off is (Release clocks) = l
  live_latched Off is Tick = l
  live_latched Off is (Cut charged) = l
  live_latched Off is PowerUp = ended_unselected old _ (l.off is)
  live_latched (On y) is Select = select_latched s.selection refl y is
  live_latched (On y) is (Byte b held) = byte_latched y is s.selection refl b held
  live_latched (On y) is (Release clocks) = release_latched s.selection clocks
  live_latched (On y) is Tick = tick_latched y is
  live_latched (On y) is (Cut charged) = ended_unselected old _ refl
  live_latched (On y) is PowerUp = l

  dead_latched : (c : Call) → Next c (refusing s Dead)
  unfolding Next
  dead_latched Select = l
  dead_latched (Byte b held) = l
  dead_latched (Release clocks) = l
  dead_latched Tick = l
  dead_latched (Cut charged) = l
  dead_latched PowerUp = l

  step_latched : (c : Call) → Next c (step k s c)
  unfolding step
  step_latched c = cond_both (alive k) _ _ (Next c) (λ _. live_latched s.power refl c) (λ _. dead_latched c)

pub history_latched : (k : Kind) (calls : List Call) → Latched (state_after k calls) (latch_at_select k calls)
unfolding Next
history_latched k [] = ended_unselected false _ refl
history_latched k (c ∷ calls) =
    subst (Latched (state_after k (c ∷ calls))) (sym (chosen_is k calls c))
    (step_latched k (state_after k calls) (latch_at_select k calls) (history_latched k calls) c)
