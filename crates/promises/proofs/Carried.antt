-- Stores, recalls and wakings carried through, and the latch over a whole selection.
use Rattle.std.proofs.Common.{◌≡◌, ℕ, zero, suc, ◌+◌, ◌-◌, ◌/◌, ◌%◌, ◌<◌, ◌≤◌, Bool, true, false, cond, not, ◌&&◌, eqb, ltb, List, [], ◌∷◌, ◌++◌, length, Some, sym, refl, ap, ◌∙◌, subst, ap₂, arith}
use Rattle.std.proofs.lemmas.Bool.{cond-true, cond-false, cond_both, lt-ltb, le-ltb, and_left, false≢true}
use Rattle.dialect.specs.declared.Instruction.{Instruction}
use Rattle.dialect.specs.declared.Instruction.TheVariants.{Enable, Disable, ReadStatus, WriteStatus, Read, Write, SecureRead, SecureWrite, Store, Recall, Nothing}
use Rattle.rules.specs.declared.Activity.{Activity}
use Rattle.rules.specs.declared.Activity.TheVariants.{Idle, Storing, Recalling, Waking}
use Rattle.rules.specs.declared.Power.TheVariants.{Off, On}
use Rattle.rules.specs.declared.Call.{Call}
use Rattle.rules.specs.declared.Call.TheVariants.{Select, Byte, Release, Tick, Cut, PowerUp}
use Rattle.rules.specs.Kind.{Kind, alive, pages, protected, page_protected}
use Rattle.rules.specs.State.{State, unselected, selected, Phase, opcode, turned_away, command, reading_status, writing_status, address, reading, reading_secure, writing_paged, writing_direct, frame, frame_too_long, with_selection, Event, keep, recall}
use Rattle.rules.specs.Opcode.{is_write, is_busy, begin, opened}
use Rattle.rules.specs.Write.{fills_page}
use Rattle.rules.specs.Frame.{frame_length, is_right, frame_place}
use Rattle.rules.specs.Byte.{Heard, heard, quiet, located}
use Rattle.rules.specs.Release.{Ended as Released, ended, done, effect, whole, disabled, frame_ended}
use Rattle.rules.specs.Power.{keeps}
use Rattle.rules.specs.Step.{Out, step, on_select, on_byte, on_release, on_tick, on_power_up, heard_out, ended_out, live_call}
use Rattle.rules.specs.History.{state_after, after, onto, trail}
use Rattle.promises.specs.Carried.{ticks, recalls, CarriedOut, Commanded, commanded, StoreKeepsEveryPage, RecallRecallsEveryPage, WakingRecallsEveryPage, Inside, ReleaseOfAWriteClearsTheLatch}
use Rattle.promises.proofs.Frames.{step_on, selects}
use Rattle.promises.proofs.Puts.{alive_is}
use Rattle.promises.proofs.Selections.{in_phase, one_more, hears}

-- ---- page by page

-- an activity that lists an event for each of its pages: P holds on the way, and Q at its end
module _ (k : Kind) (live : alive k ≡ true) (act : ℕ → Activity) (ev : ℕ → Event) (evs : ℕ → ℕ → List Event) (P Q : State → Type 0)
    (none : (p : ℕ) → evs p zero ≡ []) (more : (p n : ℕ) → evs p (suc n) ≡ ev p ∷ evs (p + 1) n)
    (listed : (s : State) (p : ℕ) → s.power ≡ On (act p) → (step k s Tick).events ≡ ev p ∷ [])
    (on : (s : State) (p : ℕ) → s.power ≡ On (act p) → P s → p + 1 < pages k → ((step k s Tick).state.power ≡ On (act (p + 1))) × P (step k s Tick).state)
    (last : (s : State) (p : ℕ) → s.power ≡ On (act p) → P s → p + 1 ≡ pages k → ((step k s Tick).state.power ≡ On Idle) × Q (step k s Tick).state) where
  through : (n p : ℕ) (calls : List Call) (t : List Event) → p + suc n ≡ pages k → (state_after k calls).power ≡ On (act p) → P (state_after k calls)
      → trail k calls ≡ t → CarriedOut k (ticks (suc n) calls) (evs p (suc n)) t × Q (state_after k (ticks (suc n) calls))
  through zero p calls t all at here is =
      let end = last (state_after k calls) p at here (omega arith) in (
        record {
          is_idle = end.0;
          listed = ap₂ onto (listed (state_after k calls) p at) is ∙ ap (λ es. onto es t) (sym (more p zero ∙ ap (λ es. ev p ∷ es) (none (p + 1))));
        },
        end.1,
      )
  through (suc n) p calls t all at here is =
      let next = on (state_after k calls) p at here (omega arith) in
      let rest = through n (p + 1) (Tick ∷ calls) (ev p ∷ t) (omega arith) next.0 next.1 (ap₂ onto (listed (state_after k calls) p at) is) in (
        record { is_idle = rest.0.is_idle; listed = rest.0.listed ∙ ap (λ es. onto es t) (sym (more p (suc n))) },
        rest.1,
      )

  pub carried : (calls : List Call) (t : List Event) → (state_after k calls).power ≡ On (act 0) → P (state_after k calls) → trail k calls ≡ t
      → CarriedOut k (ticks (pages k) calls) (evs 0 (pages k)) t × Q (state_after k (ticks (pages k) calls))
  carried calls t at here is =
      let some = (alive_is k live).is_256_or_more in
      let all : suc (pages k - 1) ≡ pages k = omega arith in
      subst (λ m. CarriedOut k (ticks m calls) (evs 0 m) t × Q (state_after k (ticks m calls))) all
      (through (pages k - 1) 0 calls t (omega arith) at here is)

module _ (k : Kind) (live : alive k ≡ true) where
  tick_out : (s : State) (y : Activity) → s.power ≡ On y → step k s Tick ≡ on_tick k s y
  tick_out s y at = step_on k s y Tick live at

  -- the next page, or the end
  goes_on : (act : ℕ → Activity) (p : ℕ) → p + 1 < pages k → On (cond (ltb (p + 1) (pages k)) (act (p + 1)) Idle) ≡ On (act (p + 1))
  goes_on act p lt = ap On (cond-true (ltb (p + 1) (pages k)) _ _ (lt-ltb _ _ lt))

  ends : (act : ℕ → Activity) (p : ℕ) → p + 1 ≡ pages k → On (cond (ltb (p + 1) (pages k)) (act (p + 1)) Idle) ≡ On Idle
  ends act p last = ap On (cond-false (ltb (p + 1) (pages k)) _ _ (le-ltb _ _ (omega arith)))

  store_carried : (calls : List Call) (t : List Event) → (state_after k calls).power ≡ On (Storing 0) → trail k calls ≡ t
      → CarriedOut k (ticks (pages k) calls) (keeps 0 (pages k)) t × ((state_after k (ticks (pages k) calls)).written ≡ false)
  store_carried calls t at is =
      carried k live Storing keep keeps (λ _. Unit {0}) (λ s. s.written ≡ false) (λ p. refl) (λ p n. refl)
      (λ s p h. ap (λ (o : Out). o.events) (tick_out s (Storing p) h))
      (λ s p h _ lt. (ap (λ (o : Out). o.state.power) (tick_out s (Storing p) h) ∙ goes_on Storing p lt, tt))
      (λ s p h _ end. (
        ap (λ (o : Out). o.state.power) (tick_out s (Storing p) h) ∙ ends Storing p end,
        ap (λ (o : Out). o.state.written) (tick_out s (Storing p) h) ∙ and_left (ltb (p + 1) (pages k)) s.written (le-ltb _ _ (omega arith)),
      ))
      calls t at tt is

  -- a state that a recalling or waking tick leaves but for its power
  recall_carried : (calls : List Call) (t : List Event) → (state_after k calls).power ≡ On (Recalling 0) → (state_after k calls).written ≡ false → trail k calls ≡ t
      → CarriedOut k (ticks (pages k) calls) (recalls 0 (pages k)) t × ((state_after k (ticks (pages k) calls)).written ≡ false)
  recall_carried calls t at clear is =
      carried k live Recalling recall recalls (λ s. s.written ≡ false) (λ s. s.written ≡ false) (λ p. refl) (λ p n. refl)
      (λ s p h. ap (λ (o : Out). o.events) (tick_out s (Recalling p) h))
      (λ s p h w lt. (
        ap (λ (o : Out). o.state.power) (tick_out s (Recalling p) h) ∙ goes_on Recalling p lt,
        ap (λ (o : Out). o.state.written) (tick_out s (Recalling p) h) ∙ w,
      ))
      (λ s p h w end. (
        ap (λ (o : Out). o.state.power) (tick_out s (Recalling p) h) ∙ ends Recalling p end,
        ap (λ (o : Out). o.state.written) (tick_out s (Recalling p) h) ∙ w,
      ))
      calls t at clear is

  -- latch and marks are clear
  abbrev Clear : State → Type 0
  Clear s = (s.latch ≡ false) × (s.failed ≡ false) × (s.written ≡ false)

  clear_on : (s : State) (p : ℕ) → s.power ≡ On (Waking p) → Clear s → Clear (step k s Tick).state
  clear_on s p h c = (
    ap (λ (o : Out). o.state.latch) (tick_out s (Waking p) h) ∙ c.0,
    ap (λ (o : Out). o.state.failed) (tick_out s (Waking p) h) ∙ c.1,
    ap (λ (o : Out). o.state.written) (tick_out s (Waking p) h) ∙ c.2,
  )

  waking_carried : (calls : List Call) (t : List Event) → (state_after k calls).power ≡ On (Waking 0) → Clear (state_after k calls) → trail k calls ≡ t
      → CarriedOut k (ticks (pages k) calls) (recalls 0 (pages k)) t × Clear (state_after k (ticks (pages k) calls))
  waking_carried calls t at clear is =
      carried k live Waking recall recalls Clear Clear (λ p. refl) (λ p n. refl)
      (λ s p h. ap (λ (o : Out). o.events) (tick_out s (Waking p) h))
      (λ s p h c lt. (ap (λ (o : Out). o.state.power) (tick_out s (Waking p) h) ∙ goes_on Waking p lt, clear_on s p h c))
      (λ s p h c end. (ap (λ (o : Out). o.state.power) (tick_out s (Waking p) h) ∙ ends Waking p end, clear_on s p h c))
      calls t at clear is

-- a command that is no write, released
command_done : (k : Kind) (calls : List Call) (opc : ℕ) (i : Instruction) → Commanded k calls opc i → is_write i ≡ false → begin i ≡ command i false
    → (after k (Byte opc false ∷ Select ∷ calls) (Release 0) ≡ ended_out (done (effect i (with_selection unselected (state_after k calls)))))
    × (trail k (Byte opc false ∷ Select ∷ calls) ≡ trail k calls)
command_done k calls opc i g reads begins =
    let s = state_after k calls in
    let t = trail k calls in
    let first = selects k g.is_alive s g.is_idle g.is_free in
    let out : step k (in_phase s opcode) (Byte opc false) ≡ heard_out s (quiet (command i false)) =
    hears k g.is_alive s g.is_idle opcode opc
    ∙ ap (λ o. heard_out s (quiet (opened Idle s.latch o))) g.names
    ∙ ap (λ p. heard_out s (quiet p)) (cond-false (is_write i && not s.latch) _ _ (and_left (is_write i) _ reads) ∙ begins) in
    let now = one_more k (Select ∷ calls) (in_phase s opcode) (in_phase s (command i false)) t t opc
    (record { state = ap (λ (o : Out). o.state) first; events = ap (λ (o : Out). onto o.events t) first })
    (ap (λ (o : Out). o.state) out) (ap (λ (o : Out). onto o.events t) out) in
    (ap (λ x. step k x (Release 0)) now.state ∙ step_on k (in_phase s (command i false)) Idle (Release 0) g.is_alive g.is_idle, now.events)

pub store_keeps : StoreKeepsEveryPage
store_keeps k calls opc g =
    let d = command_done k calls opc Store g refl refl in
    store_carried k g.is_alive (commanded opc calls) (trail k calls) (ap (λ (o : Out). o.state.power) d.0)
    (ap₂ onto (ap (λ (o : Out). o.events) d.0) d.1)

pub recall_recalls : RecallRecallsEveryPage
recall_recalls k calls opc g =
    let d = command_done k calls opc Recall g refl refl in
    recall_carried k g.is_alive (commanded opc calls) (trail k calls) (ap (λ (o : Out). o.state.power) d.0) (ap (λ (o : Out). o.state.written) d.0)
    (ap₂ onto (ap (λ (o : Out). o.events) d.0) d.1)

wakes : (k : Kind) (s : State) → alive k ≡ true → s.power ≡ Off → step k s PowerUp ≡ on_power_up s Off
unfolding step
wakes k s live off = cond-true (alive k) _ _ live ∙ ap (λ p. live_call k s p PowerUp) off

pub waking_recalls : WakingRecallsEveryPage
waking_recalls k calls live off =
    let up = wakes k (state_after k calls) live off in
    let all = waking_carried k live (PowerUp ∷ calls) (trail k calls) (ap (λ (o : Out). o.state.power) up)
    (ap (λ (o : Out). o.state.latch) up, ap (λ (o : Out). o.state.failed) up, ap (λ (o : Out). o.state.written) up)
    (ap (λ (o : Out). onto o.events (trail k calls)) up) in
    (all.0, all.1.0, all.1.1, all.1.2)

-- ---- the latch over a whole selection

-- the phases of a write
abbrev Writing : Phase → Type 0
Writing opcode = ⊥
Writing (turned_away r w) = w ≡ true
Writing (command i followed) = ⊥
Writing reading_status = ⊥
Writing (writing_status n first) = Unit {0}
Writing (address i bytes) = i ≡ Write
Writing (reading a) = ⊥
Writing (reading_secure a n) = ⊥
Writing (writing_paged page first held blocked any) = Unit {0}
Writing (writing_direct a blocked any) = Unit {0}
Writing (frame bytes) = Unit {0}
Writing frame_too_long = Unit {0}

begun_writing : (i : Instruction) → is_write i ≡ true → Writing (begin i)
begun_writing Enable e = absurd (false≢true e)
begun_writing Disable e = absurd (false≢true e)
begun_writing ReadStatus e = absurd (false≢true e)
begun_writing WriteStatus e = tt
begun_writing Read e = absurd (false≢true e)
begun_writing Write e = refl
begun_writing SecureRead e = absurd (false≢true e)
begun_writing SecureWrite e = tt
begun_writing Store e = absurd (false≢true e)
begun_writing Recall e = absurd (false≢true e)
begun_writing Nothing e = absurd (false≢true e)

opened_writing : (y : Activity) (latch : Bool) (i : Instruction) → is_write i ≡ true → Writing (opened y latch (Some i))
opened_writing y latch i e =
    cond_both (is_busy y (Some i)) _ _ Writing (λ _. e)
    (λ _. cond_both (is_write i && not latch) _ _ Writing (λ _. refl) (λ _. begun_writing i e))

located_writing : (k : Kind) (i : Instruction) (a : ℕ) → i ≡ Write → Writing (located k i a)
located_writing k i a e =
    subst (λ x. Writing (located k x a)) (sym e)
    (cond_both k.facts.direct (writing_direct a false false) (writing_paged (a / 64) (a % 64) [] false false) Writing (λ _. tt) (λ _. tt))

heard_writing : (k : Kind) (s : State) (y : Activity) (ph : Phase) (b : ℕ) → Writing ph → Writing (heard k s y ph b).phase
heard_writing k s y opcode b h = absurd h
heard_writing k s y (turned_away r w) b h = h
heard_writing k s y (command i followed) b h = absurd h
heard_writing k s y reading_status b h = absurd h
heard_writing k s y (writing_status n first) b h = tt
heard_writing k s y (address i bytes) b h =
    cond_both (ltb (length bytes + 1) k.facts.address_bytes) _ _ Writing (λ _. h) (λ _. located_writing k i _ h)
heard_writing k s y (reading a) b h = absurd h
heard_writing k s y (reading_secure a n) b h = absurd h
heard_writing k s y (writing_paged page first held blocked any) b h =
    cond_both (k.facts.runs_on s.status_bits && fills_page first held) _ _ (λ (o : Heard). Writing o.phase) (λ _. tt) (λ _. tt)
heard_writing k s y (writing_direct a blocked any) b h =
    cond_both (protected k s.status_bits a) _ _ (λ (o : Heard). Writing o.phase) (λ _. tt) (λ _. tt)
heard_writing k s y (frame bytes) b h = cond_both (ltb (length bytes) (frame_length k)) _ _ Writing (λ _. tt) (λ _. tt)
heard_writing k s y frame_too_long b h = tt

abbrev Disabled : Released → Type 0
Disabled e = e.state.latch ≡ false

whole_disabled : (right : Bool) (clocks : ℕ) (s : State) (then : Released) → Disabled then → Disabled (whole right clocks (disabled s) then)
whole_disabled right clocks s then h =
    cond_both right _ _ Disabled (λ _. cond_both (eqb clocks 0) _ _ Disabled (λ _. h) (λ _. refl)) (λ _. refl)

frame_disabled : (k : Kind) (s : State) (bytes : List ℕ) → Disabled (frame_ended k s bytes)
frame_disabled k s bytes =
    cond_both (is_right k bytes) _ _ Disabled
    (λ _. cond_both (page_protected k s.status_bits (frame_place k bytes / 64)) _ _ Disabled (λ _. refl) (λ _. refl)) (λ _. refl)

ended_disabled : (k : Kind) (s : State) (ph : Phase) (clocks : ℕ) → Writing ph → Disabled (ended k s ph clocks)
ended_disabled k s opcode clocks h = absurd h
ended_disabled k s (turned_away r w) clocks h = ap (λ (x : State). x.latch) (cond-true w _ _ h)
ended_disabled k s (command i followed) clocks h = absurd h
ended_disabled k s reading_status clocks h = absurd h
ended_disabled k s (writing_status n first) clocks h = whole_disabled (eqb n 1) clocks s _ refl
ended_disabled k s (address i bytes) clocks h = ap (λ (e : Released). e.state.latch) (cond-true (is_write i) _ _ (ap is_write h))
ended_disabled k s (reading a) clocks h = absurd h
ended_disabled k s (reading_secure a n) clocks h = absurd h
ended_disabled k s (writing_paged page first held blocked any) clocks h = whole_disabled any clocks s _ refl
ended_disabled k s (writing_direct a blocked any) clocks h = whole_disabled any clocks s _ refl
ended_disabled k s (frame bytes) clocks h = whole_disabled (eqb (length bytes) (frame_length k)) clocks s _ (frame_disabled k s bytes)
ended_disabled k s frame_too_long clocks h = refl

-- a part that is on, in a phase of a write
record InWrite (s : State) : Type 0 where
  activity : Activity
  phase : Phase
  is_on : s.power ≡ On activity
  is_selected : s.selection ≡ selected phase
  writes : Writing phase

module _ (k : Kind) (live : alive k ≡ true) where
  byte_in_write : (s : State) (b : ℕ) (held : Bool) → InWrite s → InWrite (step k s (Byte b held)).state
  byte_in_write s b held w =
      subst (λ (o : Out). InWrite o.state) (sym (step_on k s w.activity (Byte b held) live w.is_on ∙ ap (λ x. on_byte k s w.activity x b held) w.is_selected)) (ways held)
    where
      ways : (h : Bool) → InWrite (on_byte k s w.activity (selected w.phase) b h).state
      ways true = w
      ways false = record {
        activity = w.activity;
        phase = (heard k s w.activity w.phase b).phase;
        is_on = w.is_on;
        is_selected = refl;
        writes = heard_writing k s w.activity w.phase b w.writes;
      }

  tick_in_write : (s : State) → InWrite s → InWrite (step k s Tick).state
  tick_in_write s w = subst (λ (o : Out). InWrite o.state) (sym (step_on k s w.activity Tick live w.is_on)) (ways w.activity)
    where
      ways : (y : Activity) → InWrite (on_tick k s y).state
      ways Idle = w
      ways (Storing p) = record { activity = _; phase = w.phase; is_on = refl; is_selected = w.is_selected; writes = w.writes }
      ways (Recalling p) = record { activity = _; phase = w.phase; is_on = refl; is_selected = w.is_selected; writes = w.writes }
      ways (Waking p) = record { activity = _; phase = w.phase; is_on = refl; is_selected = w.is_selected; writes = w.writes }

  inside_in_write : (calls : List Call) → InWrite (state_after k calls) → (inside : List Call) → Inside inside → InWrite (state_after k (inside ++ calls))
  inside_in_write calls w [] h = w
  inside_in_write calls w (Byte b held ∷ inside) h = byte_in_write _ b held (inside_in_write calls w inside h)
  inside_in_write calls w (Tick ∷ inside) h = tick_in_write _ (inside_in_write calls w inside h)
  inside_in_write calls w (Select ∷ inside) h = absurd h
  inside_in_write calls w (Release clocks ∷ inside) h = absurd h
  inside_in_write calls w (Cut charged ∷ inside) h = absurd h
  inside_in_write calls w (PowerUp ∷ inside) h = absurd h

  release_disables : (s : State) (clocks : ℕ) → InWrite s → clocks ≤ 7 → (step k s (Release clocks)).state.latch ≡ false
  release_disables s clocks w few =
      ap (λ (o : Out). o.state.latch)
      (step_on k s w.activity (Release clocks) live w.is_on ∙ ap (λ x. on_release k s x clocks) w.is_selected
      ∙ cond-false (ltb 7 clocks) _ _ (le-ltb 7 clocks few))
      ∙ ended_disabled k (with_selection unselected s) w.phase clocks w.writes

pub release_of_a_write : ReleaseOfAWriteClearsTheLatch
release_of_a_write k calls y live at free opc i names writes inside h clocks few =
    let s = state_after k calls in
    let first : state_after k (Select ∷ calls) ≡ in_phase s opcode = ap (λ (o : Out). o.state) (step_on k s y Select live at ∙ ap (on_select s) free) in
    let out : step k (in_phase s opcode) (Byte opc false) ≡ heard_out s (quiet (opened y s.latch (Some i))) =
    step_on k (in_phase s opcode) y (Byte opc false) live at ∙ ap (λ o. heard_out s (quiet (opened y s.latch o))) names in
    let begun : InWrite (in_phase s (opened y s.latch (Some i))) =
    record { activity = y; phase = opened y s.latch (Some i); is_on = at; is_selected = refl; writes = opened_writing y s.latch i writes } in
    release_disables k live _ clocks
    (inside_in_write k live (Byte opc false ∷ Select ∷ calls)
    (subst InWrite (sym (ap (λ x. (step k x (Byte opc false)).state) first ∙ ap (λ (o : Out). o.state) out)) begun) inside h)
    few
