-- Secure frames sent whole to an idle enabled part: which are answered 17, and that they alter nothing.
use Rattle.std.proofs.Common.{◌≡◌, ℕ, ◌+◌, ◌-◌, ◌*◌, ◌/◌, ◌%◌, ◌^◌, ◌<◌, ◌≤◌, Bool, true, false, eqb, ltb, List, [], ◌∷◌, ◌++◌, length, Some, Ok, Err, sym, refl, ap, ◌∙◌, subst, ap₂, inl, inr, mod-lt, arith}
use Rattle.std.proofs.lemmas.Nat.{pow_below, pow_pos}
use Rattle.std.proofs.lemmas.List.{append_assoc, append-nil, length-append}
use Rattle.std.proofs.lemmas.Bool.{cond-true, cond-false, cond_both, eq-eqb, lt-ltb, eqb-true, cases_lt}
use Rattle.refusal.specs.declared.Refusal.TheVariants.{WrongSum}
use Rattle.cells.specs.Images.{Images}
use Rattle.crc.specs.Sum.{bits, message_bits}
use Rattle.crc.specs.Transfer.{highest_first, pair}
use Rattle.crc.proofs.Runs.{bits_append}
use Rattle.detect.specs.Damage.{EndsWithSum, Burst}
use Rattle.detect.proofs.Message.{burst_is_caught}
use Rattle.dialect.specs.Facts.{Lawful}
use Rattle.dialect.specs.declared.Instruction.TheVariants.{SecureWrite}
use Rattle.rules.specs.declared.Activity.{Activity}
use Rattle.rules.specs.declared.Activity.TheVariants.{Idle}
use Rattle.rules.specs.declared.Power.TheVariants.{On}
use Rattle.rules.specs.declared.Call.{Call}
use Rattle.rules.specs.declared.Call.TheVariants.{Select, Byte, Release}
use Rattle.rules.specs.Kind.{Kind, alive, page_protected}
use Rattle.rules.specs.State.{State, unselected, selected, opcode, frame, with_selection, undriven}
use Rattle.rules.specs.Opcode.{opened}
use Rattle.rules.specs.Frame.{frame_length, frame_address, frame_data, frame_sum, is_right, frame_place}
use Rattle.rules.specs.Byte.{quiet}
use Rattle.rules.specs.Release.{Ended, frame_ended}
use Rattle.rules.specs.Step.{Out, step, on_call, live_call, on_select, heard_out, ended_out}
use Rattle.rules.specs.Machine.{Moment, Changes}
use Rattle.rules.specs.History.{state_after, after, calls_of, images_after, Run}
use Rattle.promises.specs.Promises.{sent, SentWhole, newest_answer, Unaltered, counting_bits, FramePromises}
use Rattle.promises.proofs.Bits.{bytes_bits, bytes_power, small_bits, bits_mod}
use Rattle.promises.proofs.Puts.{alive_is}

-- ---- one call of a part that is on

pub step_on : (k : Kind) (s : State) (y : Activity) (c : Call) → alive k ≡ true → s.power ≡ On y → step k s c ≡ on_call k s y c
unfolding step
step_on k s y c live on = cond-true (alive k) _ _ live ∙ ap (λ p. live_call k s p c) on

-- the state while a frame comes in
abbrev pub taking : State → List ℕ → State
taking s held = with_selection (selected (frame held)) s

module _ (k : Kind) (live : alive k ≡ true) (s : State) (idle : s.power ≡ On Idle) where
  pub selects : s.selection ≡ unselected
      → step k s Select ≡ record { state = with_selection (selected opcode) s; answer = Ok 0; drive = undriven; events = [] }
  selects free = step_on k s Idle Select live idle ∙ ap (on_select s) free

  opens : s.latch ≡ true → (b : ℕ) → k.facts.decode b ≡ Some SecureWrite
      → step k (with_selection (selected opcode) s) (Byte b false) ≡ heard_out s (quiet (frame []))
  opens enabled b names =
      step_on k (with_selection (selected opcode) s) Idle (Byte b false) live idle
      ∙ ap₂ (λ l o. heard_out s (quiet (opened Idle l o))) enabled names

  takes : (held : List ℕ) (b : ℕ) → length held < frame_length k → step k (taking s held) (Byte b false) ≡ heard_out s (quiet (frame (held ++ (b ∷ []))))
  takes held b room =
      step_on k (taking s held) Idle (Byte b false) live idle
      ∙ ap (λ p. heard_out s (quiet p)) (cond-true (ltb (length held) (frame_length k)) _ _ (lt-ltb _ _ room))

  pub judges : (bytes : List ℕ) → length bytes ≡ frame_length k → step k (taking s bytes) (Release 0) ≡ ended_out (frame_ended k (with_selection unselected s) bytes)
  judges bytes full =
      step_on k (taking s bytes) Idle (Release 0) live idle
      ∙ ap ended_out (cond-true (eqb (length bytes) (frame_length k)) _ _ (eq-eqb _ _ full))

-- ---- calls that list nothing

-- none of the calls, behind those of a base, lists an event
abbrev pub Quiet : Kind → List Call → List Call → Type 0
Quiet k base [] = Unit {0}
Quiet k base (c ∷ calls) = ((after k (calls ++ base) c).events ≡ []) × Quiet k base calls

pub sent_append : (bytes : List ℕ) (calls base : List Call) → sent bytes calls ++ base ≡ sent bytes (calls ++ base)
sent_append [] calls base = refl
sent_append (b ∷ bytes) calls base = sent_append bytes (Byte b false ∷ calls) base

module _ (k : Kind) (live : alive k ≡ true) (base : List Call) (s : State) (idle : s.power ≡ On Idle) where
  -- the bytes of a frame list nothing and are held
  bytes_taken : (bytes held : List ℕ) (calls : List Call) → state_after k (calls ++ base) ≡ taking s held
      → length held + length bytes ≤ frame_length k → Quiet k base calls
      → Quiet k base (sent bytes calls) × (state_after k (sent bytes calls ++ base) ≡ taking s (held ++ bytes))
  bytes_taken [] held calls is room q = (q, is ∙ ap (taking s) (sym (append-nil held)))
  bytes_taken (b ∷ bytes) held calls is room q =
      let one : after k (calls ++ base) (Byte b false) ≡ heard_out s (quiet (frame (held ++ (b ∷ [])))) =
      ap (λ x. step k x (Byte b false)) is ∙ takes k live s idle held b (omega arith) in
      let rest = bytes_taken bytes (held ++ (b ∷ [])) (Byte b false ∷ calls)
      (ap (λ (o : Out). o.state) one) (let e : length (held ++ (b ∷ [])) ≡ length held + 1 = length-append held (b ∷ []) in omega arith)
      (ap (λ (o : Out). o.events) one, q) in
      (rest.0, rest.1 ∙ ap (taking s) (append_assoc held (b ∷ []) bytes))

-- a whole frame up to its release
module _ (k : Kind) (live : alive k ≡ true) (base : List Call) (opc : ℕ) (bytes : List ℕ)
    (names : k.facts.decode opc ≡ Some SecureWrite) (full : length bytes ≡ frame_length k)
    (idle : (state_after k base).power ≡ On Idle) (enabled : (state_after k base).latch ≡ true) (free : (state_after k base).selection ≡ unselected) where
  pub frame_taken : Quiet k base (sent bytes (Byte opc false ∷ Select ∷ [])) × (state_after k (sent bytes (Byte opc false ∷ Select ∷ []) ++ base) ≡ taking (state_after k base) bytes)
  frame_taken =
      let s = state_after k base in
      let first = selects k live s idle free in
      let second : after k (Select ∷ base) (Byte opc false) ≡ heard_out s (quiet (frame [])) =
      ap (λ (o : Out). step k o.state (Byte opc false)) first ∙ opens k live s idle enabled opc names in
      bytes_taken k live base s idle bytes [] (Byte opc false ∷ Select ∷ []) (ap (λ (o : Out). o.state) second) (omega arith)
      (ap (λ (o : Out). o.events) second, (ap (λ (o : Out). o.events) first, tt))

  pub judged : after k (sent bytes (Byte opc false ∷ Select ∷ []) ++ base) (Release 0) ≡ ended_out (frame_ended k (with_selection unselected (state_after k base)) bytes)
  judged = ap (λ x. step k x (Release 0)) frame_taken.1 ∙ judges k live (state_after k base) idle bytes full

-- ---- the answer

wrong_out : (k : Kind) (s : State) (bytes : List ℕ) → is_right k bytes ≡ false
    → ((ended_out (frame_ended k s bytes)).answer ≡ Err WrongSum) × ((ended_out (frame_ended k s bytes)).events ≡ [])
wrong_out k s bytes wrong =
    let e = cond-false (is_right k bytes) _ _ wrong in
    (ap (λ (x : Ended). (ended_out x).answer) e, ap (λ (x : Ended). x.events) e)

right_out : (k : Kind) (s : State) (bytes : List ℕ) → is_right k bytes ≡ true → (ended_out (frame_ended k s bytes)).answer ≡ Err WrongSum → ⊥
right_out k s bytes right =
    subst (λ (x : Ended). (ended_out x).answer ≡ Err WrongSum → ⊥) (sym (cond-true (is_right k bytes) _ _ right))
    (cond_both (page_protected k s.status_bits (frame_place k bytes / 64)) _ _ (λ (x : Ended). (ended_out x).answer ≡ Err WrongSum → ⊥)
    (λ _ e. let z : ◌≡◌ {A = ℕ} 0 1 = cc in omega arith) (λ _ e. let z : ◌≡◌ {A = ℕ} 0 1 = cc in omega arith))

-- ---- moments

calls_append : (ms ns : List Moment) → calls_of (ms ++ ns) ≡ calls_of ms ++ calls_of ns
calls_append [] ns = refl
calls_append (m ∷ ms) ns = ap (λ c. m.call ∷ c) (calls_append ms ns)

unaltered_more : (k : Kind) (first : Images) (earlier : List Moment) (ms : List Moment) → Run k first (ms ++ earlier)
    → Quiet k (calls_of earlier) (calls_of ms)
    → Unaltered (images_after first earlier) ms × (images_after first (ms ++ earlier) ≡ images_after first earlier)
unaltered_more k first earlier [] run q = (tt, refl)
unaltered_more k first earlier (m ∷ ms) run q =
    let before = unaltered_more k first earlier ms run.0 q.1 in
    let quiet_call : (after k (calls_of (ms ++ earlier)) m.call).events ≡ [] =
    ap (λ c. (after k c m.call).events) (calls_append ms earlier) ∙ q.0 in
    let same : m.images ≡ images_after first (ms ++ earlier) =
    subst (λ es. Changes k es (images_after first (ms ++ earlier)) m.images) quiet_call run.1.images in
    ((same ∙ before.1, before.0), same ∙ before.1)

-- the answer of the newest of some moments is that of the rules
newest : (k : Kind) (first : Images) (moments ms earlier : List Moment) (c : Call) (calls : List Call) → Run k first moments
    → moments ≡ ms ++ earlier → calls_of ms ≡ c ∷ calls → newest_answer moments ≡ (after k (calls ++ calls_of earlier) c).answer
newest k first moments [] earlier c calls run split is = absurd (let z : ◌≡◌ {A = ℕ} 0 1 = cc in omega arith)
newest k first moments (m ∷ ms) earlier c calls run split is =
    let run' : Run k first (m ∷ (ms ++ earlier)) = subst (Run k first) split run in
    let here : m.call ≡ c = cc in
    let rest : calls_of ms ≡ calls = cc in
    ap newest_answer split ∙ run'.1.answer
    ∙ ap₂ (λ h x. (after k h x).answer) (calls_append ms earlier ∙ ap (λ x. x ++ calls_of earlier) rest) here

module _ (k : Kind) (first : Images) (moments : List Moment) (run : Run k first moments) (opc : ℕ) (bytes : List ℕ) (w : SentWhole k opc bytes moments) where
  abbrev held : State
  held = with_selection unselected (state_after k (calls_of w.earlier))

  whole_answer : newest_answer moments ≡ (ended_out (frame_ended k held bytes)).answer
  whole_answer =
      newest k first moments w.meanwhile w.earlier (Release 0) (sent bytes (Byte opc false ∷ Select ∷ [])) run w.split w.calls
      ∙ ap (λ (o : Out). o.answer) (judged k w.is_alive (calls_of w.earlier) opc bytes w.names w.whole w.is_idle w.is_enabled w.is_free)

  pub wrong_is_refused : is_right k bytes ≡ false → newest_answer moments ≡ Err WrongSum
  wrong_is_refused wrong = whole_answer ∙ (wrong_out k held bytes wrong).0

  pub refused_is_wrong : newest_answer moments ≡ Err WrongSum → is_right k bytes ≡ false
  refused_is_wrong e = ways (is_right k bytes) refl
    where
      ways : (r : Bool) → is_right k bytes ≡ r → is_right k bytes ≡ false
      ways true right = absurd (right_out k held bytes right (sym whole_answer ∙ e))
      ways false wrong = wrong

  pub wrong_alters_nothing : is_right k bytes ≡ false → Unaltered (images_after first w.earlier) w.meanwhile
  wrong_alters_nothing wrong =
      let taken = frame_taken k w.is_alive (calls_of w.earlier) opc bytes w.names w.whole w.is_idle w.is_enabled w.is_free in
      let out = judged k w.is_alive (calls_of w.earlier) opc bytes w.names w.whole w.is_idle w.is_enabled w.is_free in
      (unaltered_more k first w.earlier w.meanwhile (subst (Run k first) w.split run)
      (subst (Quiet k (calls_of w.earlier)) (sym w.calls) (ap (λ (o : Out). o.events) out ∙ (wrong_out k held bytes wrong).1, taken.0))).0

-- ---- damage

-- what the sum of a frame covers, followed by the sum as sent
abbrev message : Kind → List ℕ → List ℕ
message k bytes = (highest_first k.facts.address_bytes (frame_place k bytes) ++ frame_data k bytes) ++ pair (frame_sum k bytes)

right_ends : (k : Kind) (bytes : List ℕ) → is_right k bytes ≡ true → EndsWithSum (message k bytes)
right_ends k bytes right = (
  highest_first k.facts.address_bytes (frame_place k bytes) ++ frame_data k bytes,
  ap (λ n. (highest_first k.facts.address_bytes (frame_place k bytes) ++ frame_data k bytes) ++ pair n) (sym (eqb-true _ _ right)),
)

exponent_fits : (k : Kind) → Lawful k.facts → alive k ≡ true → (e : ℕ) → k.size ≡ 2 ^ e → e ≤ k.facts.address_bytes * 8
exponent_fits k law live e power =
    elim (cases_lt (k.facts.address_bytes * 8) e) [
      | inl past ↦ absurd (omega (arith, pow_below _ e past, bytes_power k.facts.address_bytes, law.largest_is_within_the_address, (alive_is k live).is_within_the_largest))
      | inr fits ↦ fits
    ]

-- before the counting bits only zeros are covered
message_counts : (k : Kind) → Lawful k.facts → alive k ≡ true → (e : ℕ) → k.size ≡ 2 ^ e → (bytes : List ℕ)
    → message_bits (message k bytes) ≡ bits (k.facts.address_bytes * 8 - e) 0 ++ counting_bits k e bytes
message_counts k law live e power bytes =
    let n = k.facts.address_bytes in
    let place = frame_place k bytes in
    let small : place < 2 ^ e = subst (λ m. place < m) power (mod-lt (frame_address k bytes) (omega (arith, power, pow_pos e))) in
    let low : bits e place ≡ bits e (frame_address k bytes) =
    ap (λ m. bits e (frame_address k bytes % m)) power ∙ bits_mod e e (frame_address k bytes) (omega arith) in
    bits_append (highest_first n place ++ frame_data k bytes) (pair (frame_sum k bytes))
    ∙ ap₂ ◌++◌ (bits_append (highest_first n place) (frame_data k bytes)) (bytes_bits 2 (frame_sum k bytes))
    ∙ ap (λ w. (w ++ message_bits (frame_data k bytes)) ++ bits 16 (frame_sum k bytes))
    (bytes_bits n place ∙ small_bits (n * 8) e place (exponent_fits k law live e power) small ∙ ap (λ w. bits (n * 8 - e) 0 ++ w) low)
    ∙ append_assoc (bits (n * 8 - e) 0 ++ bits e (frame_address k bytes)) (message_bits (frame_data k bytes)) (bits 16 (frame_sum k bytes))
    ∙ append_assoc (bits (n * 8 - e) 0) (bits e (frame_address k bytes)) (message_bits (frame_data k bytes) ++ bits 16 (frame_sum k bytes))

-- a burst behind a common beginning
burst_behind : (width : ℕ) (same v w : List Bool) → Burst width v w → Burst width (same ++ v) (same ++ w)
burst_behind width same v w b = record {
  before = same ++ b.before;
  was = b.was;
  became = b.became;
  behind = b.behind;
  sent_bits = ap (λ x. same ++ x) b.sent_bits ∙ sym (append_assoc same b.before (b.was ++ b.behind));
  received_bits = ap (λ x. same ++ x) b.received_bits ∙ sym (append_assoc same b.before (b.became ++ b.behind));
  in_place = b.in_place;
  short = b.short;
  differs = b.differs;
}

pub damaged_is_wrong : (k : Kind) → Lawful k.facts → alive k ≡ true → (e : ℕ) → k.size ≡ 2 ^ e → (right received : List ℕ)
    → is_right k right ≡ true → Burst 16 (counting_bits k e right) (counting_bits k e received) → is_right k received ≡ false
damaged_is_wrong k law live e power right received is b = ways (is_right k received) refl
  where
    ways : (r : Bool) → is_right k received ≡ r → is_right k received ≡ false
    ways true also =
        absurd (burst_is_caught (message k right) (message k received) (right_ends k right is)
        (subst (λ v. Burst 16 v (message_bits (message k received))) (sym (message_counts k law live e power right))
        (subst (λ w. Burst 16 (bits (k.facts.address_bytes * 8 - e) 0 ++ counting_bits k e right) w) (sym (message_counts k law live e power received))
        (burst_behind 16 (bits (k.facts.address_bytes * 8 - e) 0) _ _ b)))
        (right_ends k received also))
    ways false wrong = wrong

pub frames_hold : (k : Kind) → Lawful k.facts → (first : Images) (moments : List Moment) → Run k first moments → FramePromises k first moments
frames_hold k law first moments run = record {
  exactly_wrong_frames_get_17 = λ opc bytes w.
      (refused_is_wrong k first moments run opc bytes w, wrong_is_refused k first moments run opc bytes w);
  damaged_frames_get_17 = λ opc right received e is full power b w.
      let wrong = damaged_is_wrong k law w.is_alive e power right received is b in
      (wrong_is_refused k first moments run opc received w wrong, wrong_alters_nothing k first moments run opc received w wrong);
}
