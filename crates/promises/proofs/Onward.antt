-- Writes that go on through the array, direct or paged.
use Rattle.std.proofs.Common.{◌≡◌, ℕ, suc, ◌+◌, ◌-◌, ◌*◌, ◌/◌, ◌%◌, ◌≤◌, Bool, true, false, cond, not, ◌&&◌, ◌||◌, List, [], ◌∷◌, ◌++◌, length, take, drop, Some, None, Ok, Err, sym, refl, ap, ◌∙◌, subst, ap₂, inl, inr, add-zero, arith}
use native.Mathlib.Nat.{mod-add-mod, mod-mod}
use lib.Arith.{mod-mul}
use Rattle.std.proofs.lemmas.List.{append_assoc, append-nil, length_push, length-drop, length-take-le, take-append-drop, take-append-le, take_all, drop-append-le, drop_all}
use Rattle.std.proofs.lemmas.Bool.{cond-true, cond-false, cond_both, lt-leb, eq-eqb, ne_eqb, cases_eq}
use Rattle.refusal.specs.declared.Refusal.TheVariants.{Protected}
use Rattle.dialect.specs.Facts.{Lawful, Within}
use Rattle.dialect.specs.Sizes.{whole_256s}
use Rattle.dialect.specs.declared.Instruction.TheVariants.{Write}
use Rattle.rules.specs.declared.Activity.TheVariants.{Idle}
use Rattle.rules.specs.declared.Power.TheVariants.{On}
use Rattle.rules.specs.declared.Call.TheVariants.{Select, Byte, Release}
use Rattle.rules.specs.Kind.{Kind, alive, pages, next, next_page, protected, page_protected}
use Rattle.rules.specs.State.{State, Phase, writing_paged, writing_direct, with_written, Event, put, keep, recall, fade}
use Rattle.rules.specs.Write.{is_full, first_held, latest, placed, accepted, fills_page}
use Rattle.rules.specs.Byte.{Heard, heard, quiet, putting}
use Rattle.rules.specs.Release.{write_ended, paged_ended, disabled, has_bytes}
use Rattle.rules.specs.Step.{Out, step, ended_out, answer_of, marked}
use Rattle.rules.specs.History.{state_after, onto, trail}
use Rattle.promises.specs.Promises.{sent}
use Rattle.promises.specs.Selections.{selection, place, puts_onward, some_protected, DirectWriteGoesOn, WriteThatRunsOnGoesOn}
use Rattle.promises.proofs.Puts.{alive_is, page_is}
use Rattle.promises.proofs.Control.{history_sound, onto_append}
use Rattle.promises.proofs.Frames.{step_on}
use Rattle.promises.proofs.Selections.{sent_more, Now, followed, in_phase, hears, begun_at, one_longer}

-- ---- the puts of bytes in a row

marked_true : (es : List Event) → marked es true ≡ true
marked_true [] = refl
marked_true (put a b ∷ es) = refl
marked_true (keep p ∷ es) = marked_true es
marked_true (recall p ∷ es) = marked_true es
marked_true (fade ∷ es) = marked_true es

marked_append : (es fs : List Event) (w : Bool) → marked fs (marked es w) ≡ marked (es ++ fs) w
marked_append [] fs w = refl
marked_append (put a b ∷ es) fs w = marked_true fs
marked_append (keep p ∷ es) fs w = marked_append es fs w
marked_append (recall p ∷ es) fs w = marked_append es fs w
marked_append (fade ∷ es) fs w = marked_append es fs w

or_assoc : (x y z : Bool) → (x || (y || z)) ≡ ((x || y) || z)
or_assoc true y z = refl
or_assoc false y z = refl

or-false : (x : Bool) → (x || false) ≡ x
or-false true = refl
or-false false = refl

or_same : (x : Bool) → (x || x) ≡ x
or_same true = refl
or_same false = refl

has_pushed : (bytes : List ℕ) (b : ℕ) → true ≡ has_bytes (bytes ++ (b ∷ []))
has_pushed [] b = refl
has_pushed (x ∷ bytes) b = refl

put_or_not : (c : Bool) (e : Event) (us vs ws : List Event) → us ≡ vs ++ ws → cond c us (e ∷ us) ≡ cond c vs (e ∷ vs) ++ ws
put_or_not true e us vs ws h = h
put_or_not false e us vs ws h = ap (λ es. e ∷ es) h

module _ (k : Kind) (R : ℕ) where
  puts_append : (xs ys : List ℕ) (a : ℕ) → puts_onward k R a (xs ++ ys) ≡ puts_onward k R a xs ++ puts_onward k R (a + length xs) ys
  puts_append [] ys a = ap (λ n. puts_onward k R n ys) (sym (add-zero a))
  puts_append (x ∷ xs) ys a =
      let rest : puts_onward k R (a + 1) (xs ++ ys) ≡ puts_onward k R (a + 1) xs ++ puts_onward k R (a + suc (length xs)) ys =
      puts_append xs ys (a + 1) ∙ ap (λ n. puts_onward k R (a + 1) xs ++ puts_onward k R n ys) (omega arith) in
      put_or_not (protected k R (a % k.size)) (put (a % k.size) x) _ _ _ rest

  some_append : (xs ys : List ℕ) (a : ℕ) → some_protected k R a (xs ++ ys) ≡ (some_protected k R a xs || some_protected k R (a + length xs) ys)
  some_append [] ys a = ap (λ n. some_protected k R n ys) (sym (add-zero a))
  some_append (x ∷ xs) ys a =
      ap (λ c. protected k R (a % k.size) || c)
      (some_append xs ys (a + 1) ∙ ap (λ n. some_protected k R (a + 1) xs || some_protected k R n ys) (omega arith))
      ∙ or_assoc (protected k R (a % k.size)) _ _

-- the answer, by whether some byte was protected
answered : (c : Bool) → answer_of (cond c (Some Protected) None) ≡ cond c (Err Protected) (Ok 0)
answered true = refl
answered false = refl

-- ---- direct writes

direct_ways : (c p : Bool) (x y b : ℕ)
    → ((cond c (quiet (writing_direct y true true)) (putting (writing_direct y p true) (put x b ∷ []))).phase ≡ writing_direct y (p || (c || false)) true)
    × ((cond c (quiet (writing_direct y true true)) (putting (writing_direct y p true) (put x b ∷ []))).events ≡ cond c [] (put x b ∷ []))
direct_ways true true x y b = (refl, refl)
direct_ways true false x y b = (refl, refl)
direct_ways false true x y b = (refl, refl)
direct_ways false false x y b = (refl, refl)

module _ (k : Kind) (live : alive k ≡ true) (s : State) (idle : s.power ≡ On Idle) (t : List Event) (a : ℕ) where
  -- the state with the mark that some puts leave
  abbrev put_so_far : List Event → Phase → State
  put_so_far es ph = in_phase (with_written (marked es s.written) s) ph

  -- a byte that lists some events more
  puts_more : (done es : List Event) (ph ph' : Phase) (b : ℕ)
      → (heard k (put_so_far done ph) Idle ph b).phase ≡ ph' → (heard k (put_so_far done ph) Idle ph b).events ≡ es
      → ((step k (put_so_far done ph) (Byte b false)).state ≡ put_so_far (done ++ es) ph')
      × (onto (step k (put_so_far done ph) (Byte b false)).events (onto done t) ≡ onto (done ++ es) t)
  puts_more done es ph ph' b phase events =
      let out = hears k live (with_written (marked done s.written) s) idle ph b in (
        ap (λ (o : Out). o.state) out
            ∙ ap₂ (λ p fs. in_phase (with_written (marked fs (marked done s.written)) s) p) phase events
            ∙ ap (λ w. in_phase (with_written w s) ph') (marked_append done es s.written),
        ap (λ (o : Out). onto o.events (onto done t)) out ∙ ap (λ fs. onto fs (onto done t)) events ∙ sym (onto_append done es t),
      )

  abbrev direct_phase : List ℕ → Phase
  direct_phase earlier =
      writing_direct ((a + length earlier) % k.size) (some_protected k s.status_bits a earlier) (has_bytes earlier)

  abbrev direct_at : List ℕ → State
  direct_at earlier = put_so_far (puts_onward k s.status_bits a earlier) (direct_phase earlier)

  direct_heard : (es : List Event) (earlier : List ℕ) (b : ℕ)
      → ((heard k (put_so_far es (direct_phase earlier)) Idle (direct_phase earlier) b).phase ≡ direct_phase (earlier ++ (b ∷ [])))
      × ((heard k (put_so_far es (direct_phase earlier)) Idle (direct_phase earlier) b).events ≡ puts_onward k s.status_bits (a + length earlier) (b ∷ []))
  direct_heard es earlier b =
      let x = (a + length earlier) % k.size in
      let R = s.status_bits in
      let on : next k x ≡ (a + length (earlier ++ (b ∷ []))) % k.size =
      mod-add-mod (a + length earlier) k.size 1 ∙ ap (λ n. n % k.size) (sym (one_longer a earlier b)) in
      let shut : (some_protected k R a earlier || (protected k R x || false)) ≡ some_protected k R a (earlier ++ (b ∷ [])) =
      sym (some_append k R earlier (b ∷ []) a) in
      let is = direct_ways (protected k R x) (some_protected k R a earlier) x (next k x) b in
      (is.0 ∙ ap₂ (λ n c. writing_direct n c true) on shut ∙ ap (λ any. writing_direct ((a + length (earlier ++ (b ∷ []))) % k.size) (some_protected k R a (earlier ++ (b ∷ []))) any) (has_pushed earlier b), is.1)

  direct_out : (earlier : List ℕ) (b : ℕ)
      → ((step k (direct_at earlier) (Byte b false)).state ≡ direct_at (earlier ++ (b ∷ [])))
      × (onto (step k (direct_at earlier) (Byte b false)).events (onto (puts_onward k s.status_bits a earlier) t)
      ≡ onto (puts_onward k s.status_bits a (earlier ++ (b ∷ []))) t)
  direct_out earlier b =
      let done = puts_onward k s.status_bits a earlier in
      let h = direct_heard done earlier b in
      let more = puts_more done (puts_onward k s.status_bits (a + length earlier) (b ∷ [])) (direct_phase earlier) (direct_phase (earlier ++ (b ∷ []))) b h.0 h.1 in
      let all = sym (puts_append k s.status_bits earlier (b ∷ []) a) in
      (more.0 ∙ ap (λ es. put_so_far es (direct_phase (earlier ++ (b ∷ [])))) all, more.1 ∙ ap (λ es. onto es t) all)

  direct_release : (bytes : List ℕ) → 1 ≤ length bytes
      → step k (direct_at bytes) (Release 0) ≡ ended_out (write_ended (some_protected k s.status_bits a bytes) [] (disabled (direct_at bytes)))
  direct_release [] some = absurd (let n : ⊥ = omega arith in n)
  direct_release (b ∷ bytes) some = step_on k _ Idle (Release 0) live idle

pub direct_goes_on : DirectWriteGoesOn
direct_goes_on k calls opc addr bytes w direct =
    let s = state_after k calls in
    let t = trail k calls in
    let g = w.begun in
    let a = place k addr in
    let R = s.status_bits in
    let at = direct_at k g.is_alive s g.is_idle t a in
    let begun : Now k (sent addr (Byte opc false ∷ Select ∷ calls)) (at []) t =
    subst (λ p. Now k (sent addr (Byte opc false ∷ Select ∷ calls)) (in_phase s p) t)
    (cond-true k.facts.direct _ _ direct ∙ ap (λ n. writing_direct n false false) (sym (ap (λ n. n % k.size) (add-zero a) ∙ mod-mod _ k.size)))
    (begun_at k calls Write opc addr g (ap not w.is_enabled) refl) in
    let out = direct_out k g.is_alive s g.is_idle t a in
    let now : Now k (selection opc addr bytes calls) (at bytes) (onto (puts_onward k R a bytes) t) =
    subst (λ cs. Now k cs (at bytes) (onto (puts_onward k R a bytes) t)) (sym (sent_more addr bytes (Byte opc false ∷ Select ∷ calls)))
    (followed k at (λ xs. onto (puts_onward k R a xs) t) (λ xs b. (out xs b).0) (λ xs b. (out xs b).1)
    bytes [] (sent addr (Byte opc false ∷ Select ∷ calls)) begun) in
    let ends = ap (λ x. step k x (Release 0)) now.state ∙ direct_release k g.is_alive s g.is_idle t a bytes w.has_data in
    record {
      answer = ap (λ (o : Out). o.answer) ends ∙ answered (some_protected k R a bytes);
      puts = ap₂ onto (ap (λ (o : Out). o.events) ends) now.events;
    }

-- ---- paged writes that run on

module _ (k : Kind) (law : Lawful k.facts) (live : alive k ≡ true) (R : ℕ) (within : Within k.facts R) (paged : k.facts.direct ≡ false) where
  -- an address in its page, where the array has whole pages
  spot : (x : ℕ) → (x % k.size ≡ 64 * (x / 64 % pages k) + x % 64) × (x % k.size / 64 ≡ x / 64 % pages k)
  spot x =
      let whole = whole_256s (alive_is k live) in
      let big = (alive_is k live).is_256_or_more in
      let size : k.size ≡ pages k * 64 = omega (arith, whole) in
      let is : x % k.size ≡ (x / 64 % pages k) * 64 + x % 64 =
      ap (λ n. x % n) size ∙ mod-mul x (omega (arith, big)) (omega arith) in
      (omega arith, omega arith)

  in_page : (x : ℕ) → protected k R (x % k.size) ≡ page_protected k R (x / 64 % pages k)
  in_page x = ap (protected k R) (spot x).0 ∙ page_is k law live R within paged (x / 64 % pages k) (x % 64) (omega arith)

  -- bytes that stay within one page
  shut_page : (x : ℕ) (bytes : List ℕ) → x % 64 + length bytes ≤ 64 → page_protected k R (x / 64 % pages k) ≡ true → puts_onward k R x bytes ≡ []
  shut_page x [] room shut = refl
  shut_page x (b ∷ []) room shut = cond-true (protected k R (x % k.size)) _ _ (in_page x ∙ shut)
  shut_page x (b ∷ (c ∷ bytes)) room shut =
      let same : (x + 1) / 64 ≡ x / 64 = omega arith in
      cond-true (protected k R (x % k.size)) _ _ (in_page x ∙ shut)
      ∙ shut_page (x + 1) (c ∷ bytes) (omega arith) (ap (λ n. page_protected k R (n % pages k)) same ∙ shut)

  open_page : (x : ℕ) (bytes : List ℕ) → x % 64 + length bytes ≤ 64 → page_protected k R (x / 64 % pages k) ≡ false
      → placed (x / 64 % pages k) (x % 64) bytes ≡ puts_onward k R x bytes
  open_page x [] room free = refl
  open_page x (b ∷ []) room free =
      ap (λ n. put n b ∷ []) (let e = (spot x).0 in omega arith) ∙ sym (cond-false (protected k R (x % k.size)) _ _ (in_page x ∙ free))
  open_page x (b ∷ (c ∷ bytes)) room free =
      let same : (x + 1) / 64 ≡ x / 64 = omega arith in
      let rest : placed ((x + 1) / 64 % pages k) ((x + 1) % 64) (c ∷ bytes) ≡ puts_onward k R (x + 1) (c ∷ bytes) =
      open_page (x + 1) (c ∷ bytes) (omega arith) (ap (λ n. page_protected k R (n % pages k)) same ∙ free) in
      let tail : placed (x / 64 % pages k) (x % 64 + 1) (c ∷ bytes) ≡ puts_onward k R (x + 1) (c ∷ bytes) =
      ap₂ (λ n o. placed (n % pages k) o (c ∷ bytes)) (sym same) (omega arith) ∙ rest in
      ap₂ (λ n es. put n b ∷ es) (let e = (spot x).0 in omega arith) tail
      ∙ sym (cond-false (protected k R (x % k.size)) _ _ (in_page x ∙ free))

  accepted_onward : (x : ℕ) (bytes : List ℕ) → x % 64 + length bytes ≤ 64
      → accepted k R (x / 64 % pages k) (x % 64) bytes ≡ puts_onward k R x bytes
  accepted_onward x bytes room =
      cond_both (page_protected k R (x / 64 % pages k)) _ _ (λ es. es ≡ puts_onward k R x bytes)
      (λ shut. sym (shut_page x bytes room shut)) (λ free. open_page x bytes room free)

  -- some byte is protected if the page is
  page_some : (x b : ℕ) (bytes : List ℕ) → x % 64 + length (b ∷ bytes) ≤ 64 → some_protected k R x (b ∷ bytes) ≡ page_protected k R (x / 64 % pages k)
  page_some x b [] room = or-false (protected k R (x % k.size)) ∙ in_page x
  page_some x b (c ∷ bytes) room =
      let same : (x + 1) / 64 ≡ x / 64 = omega arith in
      ap₂ ◌||◌ (in_page x) (page_some (x + 1) c bytes (omega arith) ∙ ap (λ n. page_protected k R (n % pages k)) same)
      ∙ or_same (page_protected k R (x / 64 % pages k))

  page_some_pushed : (x : ℕ) (bytes : List ℕ) (b : ℕ) → x % 64 + length (bytes ++ (b ∷ [])) ≤ 64
      → some_protected k R x (bytes ++ (b ∷ [])) ≡ page_protected k R (x / 64 % pages k)
  page_some_pushed x [] b room = page_some x b [] room
  page_some_pushed x (c ∷ bytes) b room = page_some x c (bytes ++ (b ∷ [])) room

  -- the buffer of a release
  page_some_held : (x : ℕ) (bytes : List ℕ) (c : Bool) → x % 64 + length bytes ≤ 64
      → cond (has_bytes bytes) (c || page_protected k R (x / 64 % pages k)) c ≡ (c || some_protected k R x bytes)
  page_some_held x [] c room = sym (or-false c)
  page_some_held x (b ∷ bytes) c room = ap (λ p. c || p) (sym (page_some x b bytes room))

-- a buffer that is not full takes a byte more behind those it holds
unfull_first : (first : ℕ) (held : List ℕ) → is_full held ≡ false → first_held first held ≡ first
unfull_first first held few = cond-false (is_full held) _ _ few

unfull_latest : (held : List ℕ) (b : ℕ) → is_full held ≡ false → latest held b ≡ held ++ (b ∷ [])
unfull_latest held b few = ap (λ xs. xs ++ (b ∷ [])) (cond-false (is_full held) _ _ few)

same_paged : (p p' f f' : ℕ) (h h' : List ℕ) (c c' any any' : Bool) → p ≡ p' → f ≡ f' → h ≡ h' → c ≡ c' → any ≡ any'
    → writing_paged p f h c any ≡ writing_paged p' f' h' c' any'
same_paged p p' f f' h h' c c' any any' e₁ e₂ e₃ e₄ e₅ = cc

module _ (k : Kind) (law : Lawful k.facts) (live : alive k ≡ true) (s : State) (within : Within k.facts s.status_bits) (paged : k.facts.direct ≡ false)
    (idle : s.power ≡ On Idle) (runs : k.facts.runs_on s.status_bits ≡ true) (t : List Event) (a : ℕ) where
  -- how many of m data bytes have left the buffer: those up to the last end of a page
  abbrev gone : ℕ → ℕ
  gone m = 64 * ((a % 64 + m) / 64) - a % 64

  abbrev run_phase : List ℕ → Phase
  run_phase earlier =
      writing_paged ((a + gone (length earlier)) / 64 % pages k) ((a + gone (length earlier)) % 64) (drop (gone (length earlier)) earlier)
      (some_protected k s.status_bits a (take (gone (length earlier)) earlier)) (has_bytes earlier)

  abbrev run_puts : List ℕ → List Event
  run_puts earlier = puts_onward k s.status_bits a (take (gone (length earlier)) earlier)

  -- what a byte more does to the buffer
  pub record Turned (es : List Event) (earlier : List ℕ) (b : ℕ) : Type 0 where
    pub phase : (heard k (put_so_far k live s idle t a es (run_phase earlier)) Idle (run_phase earlier) b).phase ≡ run_phase (earlier ++ (b ∷ []))
    pub puts : run_puts earlier ++ (heard k (put_so_far k live s idle t a es (run_phase earlier)) Idle (run_phase earlier) b).events ≡ run_puts (earlier ++ (b ∷ []))

  -- the byte that ends a page
  turns : (es : List Event) (earlier : List ℕ) (b : ℕ) → (a % 64 + length earlier) % 64 ≡ 63 → Turned es earlier b
  turns es earlier b last =
      let R = s.status_bits in
      let m = length earlier in
      let d = gone m in
      let x = a + d in
      let kept = length-drop d earlier in
      let pushed = length_push earlier b in
      let fits : d ≤ m = omega arith in
      let fills : fills_page (x % 64) (drop d earlier) ≡ true = eq-eqb _ 63 (omega arith) in
      let all : take d earlier ++ (drop d earlier ++ (b ∷ [])) ≡ earlier ++ (b ∷ []) =
      sym (append_assoc (take d earlier) (drop d earlier) (b ∷ [])) ∙ ap (λ xs. xs ++ (b ∷ [])) (take-append-drop d earlier) in
      let end : gone (length (earlier ++ (b ∷ []))) ≡ m + 1 = omega arith in
      let taken : take (gone (length (earlier ++ (b ∷ [])))) (earlier ++ (b ∷ [])) ≡ earlier ++ (b ∷ []) = take_all _ (earlier ++ (b ∷ [])) (omega arith) in
      let room : x % 64 + length (drop d earlier ++ (b ∷ [])) ≤ 64 = (let e = length_push (drop d earlier) b in omega arith) in
      let long : length (take d earlier) ≡ d = length-take-le d earlier fits in
      let page = x / 64 % pages k in
      let few : is_full (drop d earlier) ≡ false = lt-leb _ _ (omega arith) in
      let heard_is = cond-true (k.facts.runs_on R && fills_page (x % 64) (drop d earlier)) _ _ (ap₂ ◌&&◌ runs fills)
      ∙ ap₂ (λ f h. putting (writing_paged (next_page k page) 0 [] (some_protected k R a (take d earlier) || page_protected k R page) true) (accepted k R page f h))
      (unfull_first (x % 64) (drop d earlier) few) (unfull_latest (drop d earlier) b few) in
      record {
        phase = ap (λ (h : Heard). h.phase) heard_is
            ∙ same_paged _ _ _ _ _ _ _ _ _ _
            (mod-add-mod (x / 64) (pages k) 1 ∙ ap (λ n. n % pages k) (omega arith)) (omega arith)
            (sym (drop_all _ (earlier ++ (b ∷ [])) (omega arith)))
            (ap (λ p. some_protected k R a (take d earlier) || p)
            (sym (page_some_pushed k law live R within paged x (drop d earlier) b room) ∙ ap (λ n. some_protected k R (a + n) (drop d earlier ++ (b ∷ []))) (sym long))
            ∙ sym (some_append k R (take d earlier) (drop d earlier ++ (b ∷ [])) a)
            ∙ ap (some_protected k R a) (all ∙ sym taken))
            (has_pushed earlier b);
        puts = ap (λ (h : Heard). run_puts earlier ++ h.events) heard_is
            ∙ ap (λ es'. run_puts earlier ++ es')
            (accepted_onward k law live R within paged x (drop d earlier ++ (b ∷ [])) room ∙ ap (λ n. puts_onward k R (a + n) (drop d earlier ++ (b ∷ []))) (sym long))
            ∙ sym (puts_append k R (take d earlier) (drop d earlier ++ (b ∷ [])) a)
            ∙ ap (puts_onward k R a) (all ∙ sym taken);
      }

  -- any other
  stays : (es : List Event) (earlier : List ℕ) (b : ℕ) → ((a % 64 + length earlier) % 64 ≡ 63 → ⊥) → Turned es earlier b
  stays es earlier b other =
      let R = s.status_bits in
      let m = length earlier in
      let d = gone m in
      let x = a + d in
      let kept = length-drop d earlier in
      let pushed = length_push earlier b in
      let fits : d ≤ m = omega arith in
      let fills : fills_page (x % 64) (drop d earlier) ≡ false = ne_eqb _ 63 (λ is. other (omega arith)) in
      let same : d ≡ gone (length (earlier ++ (b ∷ []))) = omega arith in
      let taken : take d earlier ≡ take (gone (length (earlier ++ (b ∷ [])))) (earlier ++ (b ∷ [])) =
      sym (take-append-le d earlier (b ∷ []) fits) ∙ ap (λ n. take n (earlier ++ (b ∷ []))) same in
      let few : is_full (drop d earlier) ≡ false = lt-leb _ _ (omega arith) in
      let heard_is = cond-false (k.facts.runs_on R && fills_page (x % 64) (drop d earlier)) _ _ (ap₂ ◌&&◌ runs fills)
      ∙ ap₂ (λ f h. quiet (writing_paged (x / 64 % pages k) f h (some_protected k R a (take d earlier)) true))
      (unfull_first (x % 64) (drop d earlier) few) (unfull_latest (drop d earlier) b few) in
      record {
        phase = ap (λ (h : Heard). h.phase) heard_is
            ∙ same_paged _ _ _ _ _ _ _ _ _ _
            (ap (λ n. (a + n) / 64 % pages k) same) (ap (λ n. (a + n) % 64) same)
            (sym (drop-append-le d earlier (b ∷ []) fits) ∙ ap (λ n. drop n (earlier ++ (b ∷ []))) same)
            (ap (some_protected k R a) taken) (has_pushed earlier b);
        puts = ap (λ (h : Heard). run_puts earlier ++ h.events) heard_is ∙ append-nil (run_puts earlier) ∙ ap (puts_onward k R a) taken;
      }

  abbrev run_at : List ℕ → State
  run_at earlier = put_so_far k live s idle t a (run_puts earlier) (run_phase earlier)

  run_out : (earlier : List ℕ) (b : ℕ)
      → ((step k (run_at earlier) (Byte b false)).state ≡ run_at (earlier ++ (b ∷ [])))
      × (onto (step k (run_at earlier) (Byte b false)).events (onto (run_puts earlier) t) ≡ onto (run_puts (earlier ++ (b ∷ []))) t)
  run_out earlier b =
      let turned : Turned (run_puts earlier) earlier b =
      elim (cases_eq ((a % 64 + length earlier) % 64) 63) [ inl last ↦ turns (run_puts earlier) earlier b last | inr other ↦ stays (run_puts earlier) earlier b other ] in
      let more = puts_more k live s idle t a (run_puts earlier) _ (run_phase earlier) (run_phase (earlier ++ (b ∷ []))) b turned.phase refl in
      (more.0 ∙ ap (λ es. put_so_far k live s idle t a es (run_phase (earlier ++ (b ∷ [])))) turned.puts, more.1 ∙ ap (λ es. onto es t) turned.puts)

  abbrev left : List ℕ → List ℕ
  left bytes = drop (gone (length bytes)) bytes

  run_release : (bytes : List ℕ) → 1 ≤ length bytes
      → step k (run_at bytes) (Release 0)
      ≡ ended_out (paged_ended k (run_at bytes) ((a + gone (length bytes)) / 64 % pages k) ((a + gone (length bytes)) % 64) (left bytes)
      (some_protected k s.status_bits a (take (gone (length bytes)) bytes)))
  run_release [] some = absurd (let n : ⊥ = omega arith in n)
  run_release (b ∷ bytes) some = step_on k _ Idle (Release 0) live idle

  -- what left the buffer and what it still holds are all
  module _ (bytes : List ℕ) where
    fits : gone (length bytes) ≤ length bytes
    fits = omega arith

    room : (a + gone (length bytes)) % 64 + length (left bytes) ≤ 64
    room = let kept = length-drop (gone (length bytes)) bytes in omega arith

    run_all : run_puts bytes ++ accepted k s.status_bits ((a + gone (length bytes)) / 64 % pages k) ((a + gone (length bytes)) % 64) (left bytes)
        ≡ puts_onward k s.status_bits a bytes
    run_all =
        ap (λ es. run_puts bytes ++ es)
        (accepted_onward k law live s.status_bits within paged _ (left bytes) room
        ∙ ap (λ n. puts_onward k s.status_bits (a + n) (left bytes)) (sym (length-take-le _ bytes fits)))
        ∙ sym (puts_append k s.status_bits (take (gone (length bytes)) bytes) (left bytes) a)
        ∙ ap (puts_onward k s.status_bits a) (take-append-drop _ bytes)

    run_some : cond (has_bytes (left bytes)) (some_protected k s.status_bits a (take (gone (length bytes)) bytes) || page_protected k s.status_bits ((a + gone (length bytes)) / 64 % pages k))
        (some_protected k s.status_bits a (take (gone (length bytes)) bytes))
        ≡ some_protected k s.status_bits a bytes
    run_some =
        page_some_held k law live s.status_bits within paged (a + gone (length bytes)) (left bytes) _ room
        ∙ ap (λ n. some_protected k s.status_bits a (take (gone (length bytes)) bytes) || some_protected k s.status_bits (a + n) (left bytes)) (sym (length-take-le _ bytes fits))
        ∙ sym (some_append k s.status_bits (take (gone (length bytes)) bytes) (left bytes) a)
        ∙ ap (some_protected k s.status_bits a) (take-append-drop _ bytes)

pub paged_goes_on : WriteThatRunsOnGoesOn
paged_goes_on k calls opc addr bytes w paged runs =
    let s = state_after k calls in
    let t = trail k calls in
    let g = w.begun in
    let a = place k addr in
    let R = s.status_bits in
    let within = (history_sound k g.is_lawful calls).bits in
    let at = run_at k g.is_lawful g.is_alive s within paged g.is_idle runs t a in
    let puts = run_puts k g.is_lawful g.is_alive s within paged g.is_idle runs t a in
    let none : gone k g.is_lawful g.is_alive s within paged g.is_idle runs t a 0 ≡ 0 = omega arith in
    let here : a / 64 ≡ a / 64 % pages k =
    ap (λ n. n / 64) (sym (mod-mod _ k.size)) ∙ (spot k g.is_lawful g.is_alive R within paged a).1 in
    let first : Now k (sent addr (Byte opc false ∷ Select ∷ calls)) (in_phase s (writing_paged ((a + 0) / 64 % pages k) ((a + 0) % 64) [] false false)) t =
    subst (λ p. Now k (sent addr (Byte opc false ∷ Select ∷ calls)) (in_phase s p) t)
    (cond-false k.facts.direct _ _ paged
    ∙ ap₂ (λ p o. writing_paged p o [] false false) (here ∙ ap (λ n. n / 64 % pages k) (sym (add-zero a))) (ap (λ n. n % 64) (sym (add-zero a))))
    (begun_at k calls Write opc addr g (ap not w.is_enabled) refl) in
    let begun : Now k (sent addr (Byte opc false ∷ Select ∷ calls)) (at []) (onto (puts []) t) =
    subst (λ d. Now k (sent addr (Byte opc false ∷ Select ∷ calls))
    (put_so_far k g.is_alive s g.is_idle t a (puts_onward k R a (take d []))
    (writing_paged ((a + d) / 64 % pages k) ((a + d) % 64) (drop d []) (some_protected k R a (take d [])) false))
    (onto (puts_onward k R a (take d [])) t)) (sym none) first in
    let out = run_out k g.is_lawful g.is_alive s within paged g.is_idle runs t a in
    let now : Now k (selection opc addr bytes calls) (at bytes) (onto (puts bytes) t) =
    subst (λ cs. Now k cs (at bytes) (onto (puts bytes) t)) (sym (sent_more addr bytes (Byte opc false ∷ Select ∷ calls)))
    (followed k at (λ xs. onto (puts xs) t) (λ xs b. (out xs b).0) (λ xs b. (out xs b).1)
    bytes [] (sent addr (Byte opc false ∷ Select ∷ calls)) begun) in
    let ends = ap (λ x. step k x (Release 0)) now.state ∙ run_release k g.is_lawful g.is_alive s within paged g.is_idle runs t a bytes w.has_data in
    record {
      answer = ap (λ (o : Out). o.answer) ends
          ∙ ap (λ c. answer_of (cond c (Some Protected) None)) (run_some k g.is_lawful g.is_alive s within paged g.is_idle runs t a bytes)
          ∙ answered (some_protected k R a bytes);
      puts = ap₂ onto (ap (λ (o : Out). o.events) ends) now.events
          ∙ sym (onto_append (puts bytes) _ t)
          ∙ ap (λ es. onto es t) (run_all k g.is_lawful g.is_alive s within paged g.is_idle runs t a bytes);
    }
