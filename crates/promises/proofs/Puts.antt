-- Which puts a byte or a release lists: none under protection, and only puts.
use Rattle.std.proofs.Common.{◌≡◌, ℕ, ◌+◌, ◌*◌, ◌/◌, ◌%◌, ◌<◌, Bool, true, false, ◌&&◌, eqb, ltb, leb, List, [], ◌∷◌, length, sym, refl, ap, ◌∙◌, subst, ap₂, inl, inr, arith}
use Rattle.std.proofs.lemmas.Bool.{cond_both, leb-true, le-leb, lt-leb, lt-ltb, le-ltb, and_parts, eqb-true, cases_lt}
use Rattle.dialect.specs.Facts.{Lawful, Within, Alive}
use Rattle.powers.proofs.Powers.{power_of_one_bit}
use Rattle.dialect.specs.declared.Instruction.{Instruction}
use Rattle.dialect.specs.declared.Instruction.TheVariants.{Enable, Disable, ReadStatus, WriteStatus, Read, Write, SecureRead, SecureWrite, Store, Recall, Nothing}
use Rattle.status.proofs.Bits.{masked_twice}
use Rattle.rules.specs.declared.Activity.{Activity}
use Rattle.rules.specs.declared.Activity.TheVariants.{Idle, Storing, Recalling}
use Rattle.rules.specs.declared.Power.{Power}
use Rattle.rules.specs.declared.Power.TheVariants.{On}
use Rattle.rules.specs.Kind.{Kind, alive, protected, page_protected}
use Rattle.rules.specs.State.{State, Phase, opcode, turned_away, command, reading_status, writing_status, address, reading, reading_secure, writing_paged, writing_direct, frame, frame_too_long, Event, put, keep, recall, fade}
use Rattle.rules.specs.Opcode.{is_write}
use Rattle.rules.specs.Write.{placed, accepted, fills_page, first_held, latest}
use Rattle.rules.specs.Frame.{frame_length, is_right, frame_place, frame_data}
use Rattle.rules.specs.Byte.{Heard, heard}
use Rattle.rules.specs.Release.{Ended, ended, whole, refused, done, disabled, effect, frame_ended}
use Rattle.promises.specs.Promises.{Puts}
use Rattle.promises.proofs.Phases.{InPhase}

-- what the two tests of `alive` say
pub alive_is : (k : Kind) → alive k ≡ true → Alive k.facts k.size
alive_is k e =
    let parts = and_parts (leb 256 k.size) _ e in
    let rest = and_parts (leb k.size k.facts.largest) _ parts.1 in
    let power = power_of_one_bit k.size (eqb-true _ 1 rest.1) in
    record { exponent = power.0; is_a_power_of_two = power.1; is_256_or_more = leb-true 256 _ parts.0; is_within_the_largest = leb-true _ _ rest.0 }

-- ---- lists of puts

abbrev pub AllPuts : List Event → Type 0
AllPuts [] = Unit {0}
AllPuts (put a b ∷ es) = AllPuts es
AllPuts (keep p ∷ es) = ⊥
AllPuts (recall p ∷ es) = ⊥
AllPuts (fade ∷ es) = ⊥

-- only puts, and none of them protected
pub record Free (k : Kind) (R : ℕ) (es : List Event) : Type 0 where
  pub all_puts : AllPuts es
  pub unprotected : (a b : ℕ) → Puts a b es → protected k R a ≡ false

-- where nothing was put, there is no event
pub none_put : (es : List Event) → AllPuts es → ((a b : ℕ) → Puts a b es → ⊥) → es ≡ []
none_put [] h n = refl
none_put (put a b ∷ es) h n = absurd (n a b (inl (refl, refl)))
none_put (keep p ∷ es) h n = absurd h
none_put (recall p ∷ es) h n = absurd h
none_put (fade ∷ es) h n = absurd h

free_none : (k : Kind) (R : ℕ) → Free k R []
free_none k R = record { all_puts = tt; unprotected = λ a b p. absurd p }

-- where both ends of the range are whole pages, an address is protected as its page is
same_leb : (first p r : ℕ) → first % 64 ≡ 0 → r < 64 → leb first (64 * p + r) ≡ leb first (64 * p)
same_leb first p r whole small =
    elim (cases_lt (64 * p) first) [
      | inl below ↦ lt-leb first (64 * p + r) (omega arith) ∙ sym (lt-leb first (64 * p) below)
      | inr above ↦ le-leb first (64 * p + r) (omega arith) ∙ sym (le-leb first (64 * p) above)
    ]

same_ltb : (end p r : ℕ) → end % 64 ≡ 0 → r < 64 → ltb (64 * p + r) end ≡ ltb (64 * p) end
same_ltb end p r whole small =
    elim (cases_lt (64 * p) end) [
      | inl below ↦ lt-ltb (64 * p + r) end (omega arith) ∙ sym (lt-ltb (64 * p) end below)
      | inr above ↦ le-ltb (64 * p + r) end (omega arith) ∙ sym (le-ltb (64 * p) end above)
    ]

module _ (k : Kind) (law : Lawful k.facts) (live : alive k ≡ true) (R : ℕ) (within : Within k.facts R) where
  pub page_is : k.facts.direct ≡ false → (p r : ℕ) → r < 64 → protected k R (64 * p + r) ≡ page_protected k R p
  page_is paged p r small =
      let ends = law.paged_range_is_whole_pages paged R k.size within (alive_is k live) in
      ap₂ ◌&&◌ (same_leb _ p r ends.0 small) (same_ltb _ p r ends.1 small)

  placed_puts : (p offset : ℕ) (bytes : List ℕ) → AllPuts (placed p offset bytes)
  placed_puts p offset [] = tt
  placed_puts p offset (b ∷ bytes) = placed_puts p (offset + 1) bytes

  placed_free : k.facts.direct ≡ false → (p offset : ℕ) (bytes : List ℕ) → page_protected k R p ≡ false
      → (a b : ℕ) → Puts a b (placed p offset bytes) → protected k R a ≡ false
  placed_free paged p offset [] free a b h = absurd h
  placed_free paged p offset (x ∷ bytes) free a b (inl (there, byte)) =
      ap (protected k R) (sym there) ∙ page_is paged p (offset % 64) (omega arith) ∙ free
  placed_free paged p offset (x ∷ bytes) free a b (inr h) = placed_free paged p (offset + 1) bytes free a b h

  accepted_free : k.facts.direct ≡ false → (p offset : ℕ) (bytes : List ℕ) → Free k R (accepted k R p offset bytes)
  accepted_free paged p offset bytes =
      cond_both (page_protected k R p) _ _ (Free k R) (λ _. free_none k R)
      (λ free. record { all_puts = placed_puts p offset bytes; unprotected = placed_free paged p offset bytes free })

  one_free : (a b : ℕ) → protected k R a ≡ false → Free k R (put a b ∷ [])
  one_free a b free = record { all_puts = tt; unprotected = λ x y h. elim h [ inl (there, byte) ↦ ap (protected k R) (sym there) ∙ free | inr h ↦ absurd h ] }

-- ---- a byte

module _ (k : Kind) (law : Lawful k.facts) (live : alive k ≡ true) (s : State) (within : Within k.facts s.status_bits) where
  pub heard_free : (x : Activity) (ph : Phase) (b : ℕ) → InPhase k (On x) s.latch ph → Free k s.status_bits (heard k s x ph b).events
  heard_free x opcode b h = free_none k _
  heard_free x (turned_away r w) b h = free_none k _
  heard_free x (command i followed) b h = free_none k _
  heard_free x reading_status b h = free_none k _
  heard_free x (writing_status n first) b h = free_none k _
  heard_free x (address i bytes) b h = free_none k _
  heard_free x (reading a) b h = free_none k _
  heard_free x (reading_secure a n) b h = free_none k _
  heard_free x (writing_paged page first held blocked any) b h =
      cond_both (k.facts.runs_on s.status_bits && fills_page first held) _ _ (λ (o : Heard). Free k s.status_bits o.events)
      (λ _. accepted_free k law live s.status_bits within h.2 page (first_held first held) (latest held b)) (λ _. free_none k _)
  heard_free x (writing_direct a blocked any) b h =
      cond_both (protected k s.status_bits a) _ _ (λ (o : Heard). Free k s.status_bits o.events)
      (λ _. free_none k _) (λ free. one_free k law live s.status_bits within a b free)
  heard_free x (frame bytes) b h = free_none k _
  heard_free x frame_too_long b h = free_none k _

  -- only writes put, in an idle part and with the latch set
  pub heard_enabled : (x : Activity) (ph : Phase) (b : ℕ) → InPhase k (On x) s.latch ph
      → (a c : ℕ) → Puts a c (heard k s x ph b).events → (On x ≡ On Idle) × (s.latch ≡ true)
  heard_enabled x opcode b h a c p = absurd p
  heard_enabled x (turned_away r w) b h a c p = absurd p
  heard_enabled x (command i followed) b h a c p = absurd p
  heard_enabled x reading_status b h a c p = absurd p
  heard_enabled x (writing_status n first) b h a c p = absurd p
  heard_enabled x (address i bytes) b h a c p = absurd p
  heard_enabled x (reading y) b h a c p = absurd p
  heard_enabled x (reading_secure y n) b h a c p = absurd p
  heard_enabled x (writing_paged page first held blocked any) b h a c p = (h.0, h.1)
  heard_enabled x (writing_direct y blocked any) b h a c p = h
  heard_enabled x (frame bytes) b h a c p = absurd p
  heard_enabled x frame_too_long b h a c p = absurd p

  -- ---- a release

  -- what a release leaves: the status bits within the mask, free puts, and the power as it was, or storing or recalling
  -- from page 0 on
  pub data Powered : Power → Power → Type 0 where
    same : {p : Power} → Powered p p
    stores : {p : Power} → p ≡ On Idle → Powered p (On (Storing 0))
    recalls : {p : Power} → p ≡ On Idle → Powered p (On (Recalling 0))

  pub record Fine (e : Ended) : Type 0 where
    pub bits : Within k.facts e.state.status_bits
    pub free : Free k s.status_bits e.events
    pub power : Powered s.power e.state.power

  keeps : (e : Ended) → e.state.status_bits ≡ s.status_bits → e.state.power ≡ s.power → e.events ≡ [] → Fine e
  keeps e same_bits same_power none = record {
    bits = subst (Within k.facts) (sym same_bits) within;
    free = subst (Free k s.status_bits) (sym none) (free_none k _);
    power = subst (Powered s.power) (sym same_power) same;
  }

  whole_fine : (right : Bool) (clocks : ℕ) (then : Ended) → Fine then → Fine (whole right clocks (disabled s) then)
  whole_fine right clocks then f =
      cond_both right _ _ Fine
      (λ _. cond_both (eqb clocks 0) _ _ Fine (λ _. f) (λ _. keeps _ refl refl refl))
      (λ _. keeps _ refl refl refl)

  effect_fine : s.power ≡ On Idle → (i : Instruction) → Fine (done (effect i s))
  effect_fine idle Enable = keeps _ refl refl refl
  effect_fine idle Disable = keeps _ refl refl refl
  effect_fine idle Store = record { bits = within; free = free_none k _; power = stores idle }
  effect_fine idle Recall = record { bits = within; free = free_none k _; power = recalls idle }
  effect_fine idle ReadStatus = keeps _ refl refl refl
  effect_fine idle WriteStatus = keeps _ refl refl refl
  effect_fine idle Read = keeps _ refl refl refl
  effect_fine idle Write = keeps _ refl refl refl
  effect_fine idle SecureRead = keeps _ refl refl refl
  effect_fine idle SecureWrite = keeps _ refl refl refl
  effect_fine idle Nothing = keeps _ refl refl refl

  frame_fine : k.facts.direct ≡ false → (bytes : List ℕ) → Fine (frame_ended k s bytes)
  frame_fine paged bytes =
      cond_both (is_right k bytes) _ _ Fine
      (λ _. cond_both (page_protected k s.status_bits (frame_place k bytes / 64)) _ _ Fine
      (λ _. keeps _ refl refl refl)
      (λ _. record { bits = within; free = accepted_free k law live s.status_bits within paged _ _ (frame_data k bytes); power = same }))
      (λ _. keeps _ refl refl refl)

  pub ended_fine : (ph : Phase) (clocks : ℕ) → InPhase k s.power s.latch ph → Fine (ended k s ph clocks)
  ended_fine opcode clocks h = keeps _ refl refl refl
  ended_fine (turned_away r w) clocks h =
      cond_both w _ _ (λ (x : State). Fine (refused r x)) (λ _. keeps _ refl refl refl) (λ _. keeps _ refl refl refl)
  ended_fine (command i followed) clocks h =
      cond_both followed _ _ Fine (λ _. keeps _ refl refl refl)
      (λ _. cond_both (eqb clocks 0) _ _ Fine (λ _. effect_fine h i) (λ _. keeps _ refl refl refl))
  ended_fine reading_status clocks h = keeps _ refl refl refl
  ended_fine (writing_status n first) clocks h =
      whole_fine (eqb n 1) clocks _ (record { bits = masked_twice first k.facts.mask; free = free_none k _; power = same })
  ended_fine (address i bytes) clocks h =
      cond_both (is_write i) _ _ Fine (λ _. keeps _ refl refl refl) (λ _. keeps _ refl refl refl)
  ended_fine (reading a) clocks h = keeps _ refl refl refl
  ended_fine (reading_secure a n) clocks h = keeps _ refl refl refl
  ended_fine (writing_paged page first held blocked any) clocks h =
      whole_fine any clocks _ (record { bits = within; free = accepted_free k law live s.status_bits within h.2 page first held; power = same })
  ended_fine (writing_direct a blocked any) clocks h = whole_fine any clocks _ (keeps _ refl refl refl)
  ended_fine (frame bytes) clocks h = whole_fine (eqb (length bytes) (frame_length k)) clocks _ (frame_fine h.2 bytes)
  ended_fine frame_too_long clocks h = keeps _ refl refl refl

  pub ended_enabled : (ph : Phase) (clocks : ℕ) → InPhase k s.power s.latch ph
      → (a c : ℕ) → Puts a c (ended k s ph clocks).events → (s.power ≡ On Idle) × (s.latch ≡ true)
  ended_enabled opcode clocks h a c q = absurd q
  ended_enabled (turned_away r w) clocks h a c q = absurd q
  ended_enabled (command i followed) clocks h a c q =
      (cond_both followed _ _ (λ (e : Ended). Puts a c e.events → (s.power ≡ On Idle) × (s.latch ≡ true)) (λ _ q. absurd q)
      (λ _. cond_both (eqb clocks 0) _ _ (λ (e : Ended). Puts a c e.events → (s.power ≡ On Idle) × (s.latch ≡ true)) (λ _ q. absurd q) (λ _ q. absurd q))) q
  ended_enabled reading_status clocks h a c q = absurd q
  ended_enabled (writing_status n first) clocks h a c q = h
  ended_enabled (address i bytes) clocks h a c q =
      cond_both (is_write i) _ _ (λ (e : Ended). Puts a c e.events → (s.power ≡ On Idle) × (s.latch ≡ true)) (λ _ q. absurd q) (λ _ q. absurd q) q
  ended_enabled (reading y) clocks h a c q = absurd q
  ended_enabled (reading_secure y n) clocks h a c q = absurd q
  ended_enabled (writing_paged page first held blocked any) clocks h a c q = (h.0, h.1)
  ended_enabled (writing_direct y blocked any) clocks h a c q = h
  ended_enabled (frame bytes) clocks h a c q = (h.0, h.1)
  ended_enabled frame_too_long clocks h a c q = absurd q
