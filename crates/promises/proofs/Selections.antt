-- What comes of the bytes of a whole selection.
use Rattle.std.proofs.Common.{◌≡◌, ℕ, ◌+◌, ◌-◌, ◌*◌, ◌/◌, ◌%◌, ◌<◌, ◌≤◌, min, Bool, true, false, cond, not, ◌&&◌, ltb, List, [], ◌∷◌, ◌++◌, map, length, get_or, drop, Some, None, sym, refl, ap, ◌∙◌, subst, ap₂, inl, inr, add-zero, arith}
use native.Mathlib.Nat.{mod-add-mod, mod-mod}
use Rattle.std.specs.List.{range_with_len}
use Rattle.std.proofs.lemmas.List.{append_assoc, append-nil, length-take, length-drop, length_push, drop-append-le, drop-drop, get_or-drop}
use Rattle.std.proofs.lemmas.Bool.{cond-true, cond-false, and_left, lt-ltb, le-ltb, le-leb, lt-leb, cases_lt}
use Rattle.refusal.specs.declared.Refusal.TheVariants.{Protected}
use Rattle.dialect.specs.declared.Instruction.{Instruction}
use Rattle.dialect.specs.declared.Instruction.TheVariants.{Read, Write, SecureRead, SecureWrite}
use Rattle.rules.specs.declared.Activity.TheVariants.{Idle}
use Rattle.rules.specs.declared.Power.TheVariants.{On}
use Rattle.rules.specs.declared.Call.{Call}
use Rattle.rules.specs.declared.Call.TheVariants.{Select, Byte, Release}
use Rattle.rules.specs.Kind.{Kind, alive, next, page_protected}
use Rattle.rules.specs.State.{State, Phase, unselected, selected, opcode, address, reading, reading_secure, writing_paged, with_selection, Event, put, cell}
use Rattle.rules.specs.Opcode.{opened, begin, is_write}
use Rattle.rules.specs.Write.{is_full, first_held, latest, placed, fills_page}
use Rattle.rules.specs.Frame.{number, frame_length, frame_data, is_right, frame_place}
use Rattle.rules.specs.Byte.{heard, quiet, driving, located, secure_drive}
use Rattle.rules.specs.Release.{paged_ended, frame_ended, has_bytes}
use Rattle.rules.specs.Step.{Out, step, heard_out, ended_out, answer_of}
use Rattle.rules.specs.History.{state_after, after, onto, trail}
use Rattle.promises.specs.Promises.{sent}
use Rattle.promises.specs.Selections.{Begun, selection, place, ReadGoesOnFromItsAddress, SecureByte, SecureReadDrivesItsPageAndTheSum, rolled_put, WriteThatRollsOver, RightFrameFillsItsPage, WrongFrameSetsTheFailMark}
use Rattle.promises.proofs.Frames.{step_on, selects, Quiet, sent_append, frame_taken, judged}

-- ---- bytes sent in a row

pub sent_more : (xs ys : List ℕ) (calls : List Call) → sent (xs ++ ys) calls ≡ sent ys (sent xs calls)
sent_more [] ys calls = refl
sent_more (x ∷ xs) ys calls = sent_more xs ys (Byte x false ∷ calls)

-- what a control state and a trail have become behind the bytes so far
pub record Now (k : Kind) (calls : List Call) (s : State) (t : List Event) : Type 0 where
  pub state : state_after k calls ≡ s
  pub events : trail k calls ≡ t

-- one byte more
pub one_more : (k : Kind) (calls : List Call) (s u : State) (t v : List Event) (b : ℕ) → Now k calls s t
    → (step k s (Byte b false)).state ≡ u → onto (step k s (Byte b false)).events t ≡ v → Now k (Byte b false ∷ calls) u v
one_more k calls s u t v b now state events = record {
  state = ap (λ x. (step k x (Byte b false)).state) now.state ∙ state;
  events = ap₂ (λ x y. onto (step k x (Byte b false)).events y) now.state now.events ∙ events;
}

-- a state and a trail that follow the bytes, byte by byte
module _ (k : Kind) (at : List ℕ → State) (so_far : List ℕ → List Event)
    (state : (earlier : List ℕ) (b : ℕ) → (step k (at earlier) (Byte b false)).state ≡ at (earlier ++ (b ∷ [])))
    (events : (earlier : List ℕ) (b : ℕ) → onto (step k (at earlier) (Byte b false)).events (so_far earlier) ≡ so_far (earlier ++ (b ∷ []))) where
  pub followed : (bytes earlier : List ℕ) (calls : List Call) → Now k calls (at earlier) (so_far earlier)
      → Now k (sent bytes calls) (at (earlier ++ bytes)) (so_far (earlier ++ bytes))
  followed [] earlier calls now = subst (λ xs. Now k calls (at xs) (so_far xs)) (sym (append-nil earlier)) now
  followed (b ∷ bytes) earlier calls now =
      subst (λ xs. Now k (sent bytes (Byte b false ∷ calls)) (at xs) (so_far xs)) (append_assoc earlier (b ∷ []) bytes)
      (followed bytes (earlier ++ (b ∷ [])) (Byte b false ∷ calls)
      (one_more k calls _ _ _ _ b now (state earlier b) (events earlier b)))

-- ---- opcode and address

abbrev pub in_phase : State → Phase → State
in_phase s ph = with_selection (selected ph) s

module _ (k : Kind) (live : alive k ≡ true) (s : State) (idle : s.power ≡ On Idle) where
  -- a byte of an idle part, in a phase
  pub hears : (ph : Phase) (b : ℕ) → step k (in_phase s ph) (Byte b false) ≡ heard_out (in_phase s ph) (heard k (in_phase s ph) Idle ph b)
  hears ph b = step_on k (in_phase s ph) Idle (Byte b false) live idle

  opens : (b : ℕ) (i : Instruction) → k.facts.decode b ≡ Some i → (is_write i && not s.latch) ≡ false → begin i ≡ address i []
      → step k (in_phase s opcode) (Byte b false) ≡ heard_out s (quiet (address i []))
  opens b i names allowed begins =
      hears opcode b
      ∙ ap (λ o. heard_out s (quiet (opened Idle s.latch o))) names
      ∙ ap (λ p. heard_out s (quiet p)) (cond-false (is_write i && not s.latch) _ _ allowed ∙ begins)

  gathers : (i : Instruction) (held : List ℕ) (b : ℕ) → length held + 1 < k.facts.address_bytes
      → step k (in_phase s (address i held)) (Byte b false) ≡ heard_out s (quiet (address i (held ++ (b ∷ []))))
  gathers i held b room =
      hears (address i held) b ∙ ap (λ p. heard_out s (quiet p)) (cond-true (ltb (length held + 1) k.facts.address_bytes) _ _ (lt-ltb _ _ room))

  locates : (i : Instruction) (held : List ℕ) (b : ℕ) → k.facts.address_bytes ≤ length held + 1
      → step k (in_phase s (address i held)) (Byte b false) ≡ heard_out s (quiet (located k i (number (held ++ (b ∷ [])) % k.size)))
  locates i held b full =
      hears (address i held) b ∙ ap (λ p. heard_out s (quiet p)) (cond-false (ltb (length held + 1) k.facts.address_bytes) _ _ (le-ltb _ _ full))

  -- the bytes of the address
  located_behind : (i : Instruction) (t : List Event) (bytes held : List ℕ) (calls : List Call) → length held + length bytes ≡ k.facts.address_bytes
      → length held < k.facts.address_bytes → Now k calls (in_phase s (address i held)) t
      → Now k (sent bytes calls) (in_phase s (located k i (number (held ++ bytes) % k.size))) t
  located_behind i t [] held calls all room now = absurd (let n : ⊥ = omega arith in n)
  located_behind i t (b ∷ []) held calls all room now =
      let out = locates i held b (omega arith) in
      one_more k calls _ _ t t b now (ap (λ (o : Out). o.state) out) (ap (λ (o : Out). onto o.events t) out)
  located_behind i t (b ∷ (c ∷ bytes)) held calls all room now =
      let out = gathers i held b (omega arith) in
      let pushed : length (held ++ (b ∷ [])) ≡ length held + 1 = length_push held b in
      subst (λ xs. Now k (sent (c ∷ bytes) (Byte b false ∷ calls)) (in_phase s (located k i (number xs % k.size))) t) (append_assoc held (b ∷ []) (c ∷ bytes))
      (located_behind i t (c ∷ bytes) (held ++ (b ∷ [])) (Byte b false ∷ calls) (omega arith) (omega arith)
      (one_more k calls _ _ t t b now (ap (λ (o : Out). o.state) out) (ap (λ (o : Out). onto o.events t) out)))

-- behind the address of a selection that is begun
pub begun_at : (k : Kind) (calls : List Call) (i : Instruction) (opc : ℕ) (addr : List ℕ) → Begun k calls i opc addr
    → (is_write i && not (state_after k calls).latch) ≡ false → begin i ≡ address i []
    → Now k (sent addr (Byte opc false ∷ Select ∷ calls)) (in_phase (state_after k calls) (located k i (place k addr))) (trail k calls)
begun_at k calls i opc addr g allowed begins =
    let s = state_after k calls in
    let first = selects k g.is_alive s g.is_idle g.is_free in
    let second = opens k g.is_alive s g.is_idle opc i g.names allowed begins in
    located_behind k g.is_alive s g.is_idle i (trail k calls) addr [] (Byte opc false ∷ Select ∷ calls)
    (omega (arith, g.whole_address)) (omega (arith, g.is_lawful.address_has_2_or_3_bytes))
    (one_more k (Select ∷ calls) (in_phase s opcode) _ (trail k calls) (trail k calls) opc
    (record { state = ap (λ (o : Out). o.state) first; events = ap (λ (o : Out). onto o.events (trail k calls)) first })
    (ap (λ (o : Out). o.state) second) (ap (λ (o : Out). onto o.events (trail k calls)) second))

-- ---- reads

-- how many bytes came, with one byte more
pub one_longer : (a : ℕ) (earlier : List ℕ) (b : ℕ) → a + length (earlier ++ (b ∷ [])) ≡ a + length earlier + 1
one_longer a earlier b = let e = length_push earlier b in omega arith

module _ (k : Kind) (live : alive k ≡ true) (s : State) (idle : s.power ≡ On Idle) (t : List Event) (a : ℕ) where
  abbrev reads_at : List ℕ → State
  reads_at earlier = in_phase s (reading ((a + length earlier) % k.size))

  read_out : (earlier : List ℕ) (b : ℕ) → step k (reads_at earlier) (Byte b false) ≡ heard_out s (driving (reading (next k ((a + length earlier) % k.size))) (cell ((a + length earlier) % k.size)))
  read_out earlier b = hears k live s idle (reading ((a + length earlier) % k.size)) b

  read_state : (earlier : List ℕ) (b : ℕ) → (step k (reads_at earlier) (Byte b false)).state ≡ reads_at (earlier ++ (b ∷ []))
  read_state earlier b =
      ap (λ (o : Out). o.state) (read_out earlier b)
      ∙ ap (λ n. in_phase s (reading n)) (mod-add-mod (a + length earlier) k.size 1 ∙ ap (λ n. n % k.size) (sym (one_longer a earlier b)))

  abbrev secures_at : List ℕ → State
  secures_at earlier = in_phase s (reading_secure a (min 66 (length earlier)))

  secure_out : (earlier : List ℕ) (b : ℕ) → step k (secures_at earlier) (Byte b false)
      ≡ heard_out s (driving (reading_secure a (min 66 (min 66 (length earlier) + 1))) (secure_drive a (min 66 (length earlier))))
  secure_out earlier b = hears k live s idle (reading_secure a (min 66 (length earlier))) b

  secure_state : (earlier : List ℕ) (b : ℕ) → (step k (secures_at earlier) (Byte b false)).state ≡ secures_at (earlier ++ (b ∷ []))
  secure_state earlier b =
      ap (λ (o : Out). o.state) (secure_out earlier b)
      ∙ ap (λ n. in_phase s (reading_secure a n)) (let e = length_push earlier b in omega arith)

pub reads_on : ReadGoesOnFromItsAddress
reads_on k calls opc addr g earlier b =
    let s = state_after k calls in
    let a = place k addr in
    let begun : Now k (sent addr (Byte opc false ∷ Select ∷ calls)) (reads_at k g.is_alive s g.is_idle (trail k calls) a []) (trail k calls) =
    subst (λ n. Now k (sent addr (Byte opc false ∷ Select ∷ calls)) (in_phase s (reading n)) (trail k calls))
    (sym (ap (λ n. n % k.size) (add-zero a) ∙ mod-mod (number addr) k.size)) (begun_at k calls Read opc addr g refl refl) in
    let now = followed k (reads_at k g.is_alive s g.is_idle (trail k calls) a) (λ _. trail k calls) (read_state k g.is_alive s g.is_idle (trail k calls) a)
    (λ before c. ap (λ (o : Out). onto o.events (trail k calls)) (read_out k g.is_alive s g.is_idle (trail k calls) a before c))
    earlier [] (sent addr (Byte opc false ∷ Select ∷ calls)) begun in
    ap (λ cs. (after k cs (Byte b false)).drive) (sent_more addr earlier (Byte opc false ∷ Select ∷ calls))
    ∙ ap (λ x. (step k x (Byte b false)).drive) now.state
    ∙ ap (λ (o : Out). o.drive) (read_out k g.is_alive s g.is_idle (trail k calls) a earlier b)

secure_byte : (a n : ℕ) → SecureByte a n (secure_drive a (min 66 n))
secure_byte a n = record {
  page_byte = λ h.
      let e : min 66 n ≡ n = omega arith in
      ap (secure_drive a) e ∙ cond-true (ltb n 64) _ _ (lt-ltb n 64 (omega arith)) ∙ ap (λ o. cell (64 * (a / 64) + o)) (omega arith);
  high_byte = λ h. let e : min 66 n ≡ 64 = omega arith in ap (secure_drive a) e;
  low_byte = λ h. let e : min 66 n ≡ 65 = omega arith in ap (secure_drive a) e;
  then_nothing = λ h. let e : min 66 n ≡ 66 = omega arith in ap (secure_drive a) e;
}

pub secure_reads : SecureReadDrivesItsPageAndTheSum
secure_reads k calls opc addr g earlier b =
    let s = state_after k calls in
    let a = place k addr in
    let now = followed k (secures_at k g.is_alive s g.is_idle (trail k calls) a) (λ _. trail k calls) (secure_state k g.is_alive s g.is_idle (trail k calls) a)
    (λ before c. ap (λ (o : Out). onto o.events (trail k calls)) (secure_out k g.is_alive s g.is_idle (trail k calls) a before c))
    earlier [] (sent addr (Byte opc false ∷ Select ∷ calls)) (begun_at k calls SecureRead opc addr g refl refl) in
    let drives : (after k (selection opc addr earlier calls) (Byte b false)).drive ≡ secure_drive a (min 66 (length earlier)) =
    ap (λ cs. (after k cs (Byte b false)).drive) (sent_more addr earlier (Byte opc false ∷ Select ∷ calls))
    ∙ ap (λ x. (step k x (Byte b false)).drive) now.state
    ∙ ap (λ (o : Out). o.drive) (secure_out k g.is_alive s g.is_idle (trail k calls) a earlier b) in
    subst (SecureByte a (length earlier)) (sym drives) (secure_byte a (length earlier))

-- ---- a write that rolls over

-- the bytes of a page as placed, told by their places among all data bytes
placed_is : (page a : ℕ) (bytes rest : List ℕ) (offset i : ℕ) → rest ≡ drop i bytes → offset % 64 ≡ (a + i) % 64
    → placed page offset rest ≡ map (λ j. put (64 * page + (a + j) % 64) (get_or bytes j 0)) (range_with_len i (length rest))
placed_is page a bytes [] offset i is there = refl
placed_is page a bytes (b ∷ rest) offset i is there =
    let byte : b ≡ get_or bytes i 0 = ap (λ xs. get_or xs 0 0) is ∙ get_or-drop i bytes 0 0 ∙ ap (λ n. get_or bytes n 0) (add-zero i) in
    let tail : rest ≡ drop (i + 1) bytes = ap (drop 1) is ∙ drop-drop 1 i bytes in
    ap₂ ◌∷◌ (ap₂ (λ o x. put (64 * page + o) x) there byte) (placed_is page a bytes rest (offset + 1) (i + 1) tail (omega arith))

module _ (k : Kind) (live : alive k ≡ true) (s : State) (idle : s.power ≡ On Idle) (rolls : k.facts.runs_on s.status_bits ≡ false) (a : ℕ) where
  abbrev rolled_phase : List ℕ → Phase
  rolled_phase bytes = writing_paged (a / 64) ((a + (length bytes - 64)) % 64) (drop (length bytes - 64) bytes) false (has_bytes bytes)

  rolls_first : (bytes : List ℕ) (b : ℕ)
      → first_held ((a + (length bytes - 64)) % 64) (drop (length bytes - 64) bytes) ≡ (a + (length (bytes ++ (b ∷ [])) - 64)) % 64
  rolls_first bytes b =
      let e = length_push bytes b in
      let d = length-drop (length bytes - 64) bytes in
      elim (cases_lt (length bytes) 64) [
        | inl few ↦ cond-false (is_full (drop (length bytes - 64) bytes)) _ _ (lt-leb _ _ (omega arith)) ∙ (omega arith)
        | inr many ↦ cond-true (is_full (drop (length bytes - 64) bytes)) _ _ (le-leb _ _ (omega arith)) ∙ (omega arith)
      ]

  rolls_bytes : (bytes : List ℕ) (b : ℕ) → latest (drop (length bytes - 64) bytes) b ≡ drop (length (bytes ++ (b ∷ [])) - 64) (bytes ++ (b ∷ []))
  rolls_bytes bytes b =
      let e = length_push bytes b in
      let d = length-drop (length bytes - 64) bytes in
      elim (cases_lt (length bytes) 64) [
        | inl few ↦ ap (λ xs. xs ++ (b ∷ [])) (cond-false (is_full (drop (length bytes - 64) bytes)) _ _ (lt-leb _ _ (omega arith)))
            ∙ sym (drop-append-le (length bytes - 64) bytes (b ∷ []) (omega arith))
            ∙ ap (λ n. drop n (bytes ++ (b ∷ []))) (omega arith)
        | inr many ↦ ap (λ xs. xs ++ (b ∷ [])) (cond-true (is_full (drop (length bytes - 64) bytes)) _ _ (le-leb _ _ (omega arith)) ∙ drop-drop 1 (length bytes - 64) bytes)
            ∙ sym (drop-append-le (length bytes - 64 + 1) bytes (b ∷ []) (omega arith))
            ∙ ap (λ n. drop n (bytes ++ (b ∷ []))) (omega arith)
      ]

  has_pushed : (bytes : List ℕ) (b : ℕ) → true ≡ has_bytes (bytes ++ (b ∷ []))
  has_pushed [] b = refl
  has_pushed (x ∷ bytes) b = refl

  rolled_out : (bytes : List ℕ) (b : ℕ) → step k (in_phase s (rolled_phase bytes)) (Byte b false) ≡ heard_out s (quiet (rolled_phase (bytes ++ (b ∷ []))))
  rolled_out bytes b =
      hears k live s idle (rolled_phase bytes) b
      ∙ ap (heard_out s)
      (cond-false (k.facts.runs_on s.status_bits && fills_page ((a + (length bytes - 64)) % 64) (drop (length bytes - 64) bytes)) _ _
      (and_left (k.facts.runs_on s.status_bits) _ rolls))
      ∙ ap (λ p. heard_out s (quiet p))
      (ap₂ (λ f h. writing_paged (a / 64) f h false true) (rolls_first bytes b) (rolls_bytes bytes b)
      ∙ ap (λ any. writing_paged (a / 64) ((a + (length (bytes ++ (b ∷ [])) - 64)) % 64) (drop (length (bytes ++ (b ∷ [])) - 64) (bytes ++ (b ∷ []))) false any) (has_pushed bytes b))

  -- the release of at least one data byte
  rolled_release : (bytes : List ℕ) → 1 ≤ length bytes
      → step k (in_phase s (rolled_phase bytes)) (Release 0)
      ≡ ended_out (paged_ended k (in_phase s (rolled_phase bytes)) (a / 64) ((a + (length bytes - 64)) % 64) (drop (length bytes - 64) bytes) false)
  rolled_release [] some = absurd (let n : ⊥ = omega arith in n)
  rolled_release (b ∷ bytes) some = step_on k _ Idle (Release 0) live idle

  any_left : (bytes : List ℕ) → 1 ≤ length bytes → has_bytes bytes ≡ true
  any_left [] some = absurd (let n : ⊥ = omega arith in n)
  any_left (b ∷ bytes) some = refl

  blocked_is : (bytes : List ℕ) (p : Bool) → 1 ≤ length bytes → cond (has_bytes (drop (length bytes - 64) bytes)) p false ≡ p
  blocked_is bytes p some =
      let d = length-drop (length bytes - 64) bytes in
      cond-true (has_bytes (drop (length bytes - 64) bytes)) _ _ (any_left (drop (length bytes - 64) bytes) (omega arith))

  rolled_puts : (bytes : List ℕ)
      → placed (a / 64) ((a + (length bytes - 64)) % 64) (drop (length bytes - 64) bytes)
      ≡ map (rolled_put a bytes) (range_with_len (length bytes - 64) (min 64 (length bytes)))
  rolled_puts bytes =
      placed_is (a / 64) a bytes (drop (length bytes - 64) bytes) ((a + (length bytes - 64)) % 64) (length bytes - 64) refl (omega arith)
      ∙ ap (λ n. map (rolled_put a bytes) (range_with_len (length bytes - 64) n)) (length-drop (length bytes - 64) bytes ∙ omega arith)

pub rolls_over : WriteThatRollsOver
rolls_over k calls opc addr bytes w paged rolls =
    let s = state_after k calls in
    let t = trail k calls in
    let g = w.begun in
    let a = place k addr in
    let first = (a + (length bytes - 64)) % 64 in
    let held = drop (length bytes - 64) bytes in
    let phase = rolled_phase k g.is_alive s g.is_idle rolls a in
    let begun : Now k (sent addr (Byte opc false ∷ Select ∷ calls)) (in_phase s (phase [])) t =
    subst (λ p. Now k (sent addr (Byte opc false ∷ Select ∷ calls)) (in_phase s p) t)
    (cond-false k.facts.direct _ _ paged ∙ ap (λ n. writing_paged (a / 64) (n % 64) [] false false) (sym (add-zero a)))
    (begun_at k calls Write opc addr g (ap not w.is_enabled) refl) in
    let out = rolled_out k g.is_alive s g.is_idle rolls a in
    let now : Now k (selection opc addr bytes calls) (in_phase s (phase bytes)) t =
    subst (λ cs. Now k cs (in_phase s (phase bytes)) t) (sym (sent_more addr bytes (Byte opc false ∷ Select ∷ calls)))
    (followed k (λ xs. in_phase s (phase xs)) (λ _. t) (λ xs b. ap (λ (o : Out). o.state) (out xs b)) (λ xs b. ap (λ (o : Out). onto o.events t) (out xs b))
    bytes [] (sent addr (Byte opc false ∷ Select ∷ calls)) begun) in
    let ends : after k (selection opc addr bytes calls) (Release 0) ≡ ended_out (paged_ended k (in_phase s (phase bytes)) (a / 64) first held false) =
    ap (λ x. step k x (Release 0)) now.state ∙ rolled_release k g.is_alive s g.is_idle rolls a bytes w.has_data in
    let blocked = blocked_is k g.is_alive s g.is_idle rolls a bytes (page_protected k s.status_bits (a / 64)) w.has_data in
    record {
      puts_the_last_64 = λ free. (
        ap (λ (o : Out). o.answer) ends ∙ ap (λ c. answer_of (cond c (Some Protected) None)) (blocked ∙ free),
        ap₂ onto (ap (λ (o : Out). o.events) ends ∙ cond-false (page_protected k s.status_bits (a / 64)) _ _ free ∙ rolled_puts k g.is_alive s g.is_idle rolls a bytes) now.events,
      );
      puts_nothing_if_protected = λ shut. (
        ap (λ (o : Out). o.answer) ends ∙ ap (λ c. answer_of (cond c (Some Protected) None)) (blocked ∙ shut),
        ap₂ onto (ap (λ (o : Out). o.events) ends ∙ cond-true (page_protected k s.status_bits (a / 64)) _ _ shut) now.events,
      );
    }

-- ---- a right frame

quiet_trail : (k : Kind) (base calls : List Call) → Quiet k base calls → trail k (calls ++ base) ≡ trail k base
quiet_trail k base [] q = refl
quiet_trail k base (c ∷ calls) q = ap (λ es. onto es (trail k (calls ++ base))) q.0 ∙ quiet_trail k base calls q.1

-- what the release of a whole frame does, and the trail before it
module _ (k : Kind) (calls : List Call) (opc : ℕ) (bytes : List ℕ) (live : alive k ≡ true) (idle : (state_after k calls).power ≡ On Idle)
    (free : (state_after k calls).selection ≡ unselected) (enabled : (state_after k calls).latch ≡ true)
    (names : k.facts.decode opc ≡ Some SecureWrite) (full : length bytes ≡ frame_length k) where
  all_sent : sent bytes (Byte opc false ∷ Select ∷ []) ++ calls ≡ sent bytes (Byte opc false ∷ Select ∷ calls)
  all_sent = sent_append bytes (Byte opc false ∷ Select ∷ []) calls

  before_judged : trail k (sent bytes (Byte opc false ∷ Select ∷ calls)) ≡ trail k calls
  before_judged = ap (trail k) (sym all_sent) ∙ quiet_trail k calls _ (frame_taken k live calls opc bytes names full idle enabled free).0

  frame_judged : after k (sent bytes (Byte opc false ∷ Select ∷ calls)) (Release 0) ≡ ended_out (frame_ended k (with_selection unselected (state_after k calls)) bytes)
  frame_judged = ap (λ cs. after k cs (Release 0)) (sym all_sent) ∙ judged k live calls opc bytes names full idle enabled free

pub frame_fills : RightFrameFillsItsPage
frame_fills k calls opc bytes live idle free enabled names full right =
    let s = with_selection unselected (state_after k calls) in
    let place = frame_place k bytes in
    let shut = page_protected k s.status_bits (place / 64) in
    let before = before_judged k calls opc bytes live idle free enabled names full in
    let ends = frame_judged k calls opc bytes live idle free enabled names full in
    let long : length (frame_data k bytes) ≡ 64 = simp (length-take, length-drop) (omega arith) in
    let accepted_frame = cond-true (is_right k bytes) _ _ right in
    record {
      puts_its_data = λ clear.
          let out = ends ∙ ap ended_out (accepted_frame ∙ cond-false shut _ _ clear) in (
            ap (λ (o : Out). o.answer) out,
            ap (λ (o : Out). o.state.failed) out,
            ap₂ onto (ap (λ (o : Out). o.events) out ∙ cond-false shut _ _ clear
                ∙ placed_is (place / 64) place (frame_data k bytes) (frame_data k bytes) (place % 64) 0 refl (omega arith)
                ∙ ap (λ n. map (rolled_put place (frame_data k bytes)) (range_with_len 0 n)) long) before,
          );
      puts_nothing_if_protected = λ closed.
          let out = ends ∙ ap ended_out (accepted_frame ∙ cond-true shut _ _ closed) in (
            ap (λ (o : Out). o.answer) out,
            ap (λ (o : Out). o.state.failed) out,
            ap₂ onto (ap (λ (o : Out). o.events) out) before,
          );
    }

pub wrong_frame_marks : WrongFrameSetsTheFailMark
wrong_frame_marks k calls opc bytes live idle free enabled names full wrong =
    let out = frame_judged k calls opc bytes live idle free enabled names full ∙ ap ended_out (cond-false (is_right k bytes) _ _ wrong) in (
      ap (λ (o : Out). o.answer) out,
      ap (λ (o : Out). o.state.failed) out,
      ap₂ onto (ap (λ (o : Out). o.events) out) (before_judged k calls opc bytes live idle free enabled names full),
    )
