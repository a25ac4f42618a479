-- What the phase of a selection says of the part: an accepted instruction other than read status finds the part idle until
-- it is released, a write finds the latch set, and the status bits stay within the mask.
use Rattle.std.proofs.Common.{◌≡◌, ℕ, ◌+◌, ◌<◌, ◌≤◌, Bool, true, false, cond, not, ◌&&◌, ltb, leb, length, Some, None, Option, sym, refl, mod-lt, arith}
use Rattle.std.proofs.lemmas.Bool.{cond_both, false≢true, leb-true, and_parts}
use Rattle.refusal.specs.declared.Refusal.TheVariants.{Busy}
use Rattle.dialect.specs.Facts.{Facts, Lawful}
use Rattle.dialect.specs.declared.Instruction.{Instruction}
use Rattle.dialect.specs.declared.Instruction.TheVariants.{Enable, Disable, ReadStatus, WriteStatus, Read, Write, SecureRead, SecureWrite, Store, Recall, Nothing}
use Rattle.rules.specs.declared.Activity.{Activity}
use Rattle.rules.specs.declared.Activity.TheVariants.{Idle, Storing, Recalling, Waking}
use Rattle.rules.specs.declared.Power.{Power}
use Rattle.rules.specs.declared.Power.TheVariants.{On}
use Rattle.rules.specs.Kind.{Kind, alive, protected}
use Rattle.rules.specs.State.{State, Selection, unselected, selected, Phase, opcode, turned_away, command, reading_status, writing_status, address, reading, reading_secure, writing_paged, writing_direct, frame, frame_too_long}
use Rattle.rules.specs.Opcode.{is_write, is_read_status, named, begin, known, opened}
use Rattle.rules.specs.Write.{fills_page}
use Rattle.rules.specs.Frame.{frame_length}
use Rattle.rules.specs.Byte.{Heard, heard, located}

abbrev pub InPhase : Kind → Power → Bool → Phase → Type 0
InPhase k p l opcode = Unit {0}
InPhase k p l (turned_away r w) = Unit {0}
InPhase k p l (command i followed) = p ≡ On Idle
InPhase k p l reading_status = Unit {0}
InPhase k p l (writing_status n first) = (p ≡ On Idle) × (l ≡ true)
InPhase k p l (address i bytes) = (p ≡ On Idle) × (is_write i ≡ true → l ≡ true)
InPhase k p l (reading a) = (p ≡ On Idle) × (a < k.size)
InPhase k p l (reading_secure a n) = (p ≡ On Idle) × (a < k.size)
InPhase k p l (writing_paged page first held blocked any) = (p ≡ On Idle) × (l ≡ true) × (k.facts.direct ≡ false)
InPhase k p l (writing_direct a blocked any) = (p ≡ On Idle) × (l ≡ true)
InPhase k p l (frame bytes) = (p ≡ On Idle) × (l ≡ true) × (k.facts.direct ≡ false)
InPhase k p l frame_too_long = p ≡ On Idle

abbrev pub InSelection : Kind → Power → Bool → Selection → Type 0
InSelection k p l unselected = Unit {0}
InSelection k p l (selected phase) = InPhase k p l phase

pub alive_size : (k : Kind) → alive k ≡ true → 256 ≤ k.size
alive_size k e = leb-true 256 k.size (and_parts (leb 256 k.size) _ e).0

-- a secure write is named only where writing is paged
paged_where_secure : (f : Facts) → Lawful f → (b : ℕ) → f.decode b ≡ Some SecureWrite → f.direct ≡ false
paged_where_secure f law b e = ways f.direct refl
  where
    ways : (d : Bool) → f.direct ≡ d → f.direct ≡ false
    ways true is = absurd (law.no_secure_write_without_fail_bit (law.direct_has_no_fail_bit is) b e)
    ways false is = is

module _ (k : Kind) (law : Lawful k.facts) where
  -- an instruction that was not turned away
  begin_phase : (b : ℕ) (l : Bool) (i : Instruction) → k.facts.decode b ≡ Some i → (is_write i && not l) ≡ false
      → InPhase k (On Idle) l (begin i)
  begin_phase b l Enable e h = refl
  begin_phase b l Disable e h = refl
  begin_phase b l ReadStatus e h = tt
  begin_phase b true WriteStatus e h = (refl, refl)
  begin_phase b false WriteStatus e h = absurd (false≢true (sym h))
  begin_phase b l Read e h = (refl, λ w. absurd (false≢true w))
  begin_phase b true Write e h = (refl, λ w. refl)
  begin_phase b false Write e h = absurd (false≢true (sym h))
  begin_phase b l SecureRead e h = (refl, λ w. absurd (false≢true w))
  begin_phase b true SecureWrite e h = (refl, refl, paged_where_secure k.facts law b e)
  begin_phase b false SecureWrite e h = absurd (false≢true (sym h))
  begin_phase b l Store e h = refl
  begin_phase b l Recall e h = refl
  begin_phase b l Nothing e h = refl

  known_phase : (b : ℕ) (l : Bool) (o : Option Instruction) → k.facts.decode b ≡ o → InPhase k (On Idle) l (known l o)
  known_phase b l None e = tt
  known_phase b l (Some i) e = cond_both (is_write i && not l) _ _ (InPhase k (On Idle) l) (λ _. tt) (begin_phase b l i e)

  -- while storing or recalling only read status begins
  busy_phase : (p : Power) (l : Bool) (o : Option Instruction) → InPhase k p l (cond (not (named is_read_status o)) (turned_away Busy (named is_write o)) (known l o))
  busy_phase p l None = tt
  busy_phase p l (Some Enable) = tt
  busy_phase p l (Some Disable) = tt
  busy_phase p l (Some ReadStatus) = tt
  busy_phase p l (Some WriteStatus) = tt
  busy_phase p l (Some Read) = tt
  busy_phase p l (Some Write) = tt
  busy_phase p l (Some SecureRead) = tt
  busy_phase p l (Some SecureWrite) = tt
  busy_phase p l (Some Store) = tt
  busy_phase p l (Some Recall) = tt
  busy_phase p l (Some Nothing) = tt

  opened_phase : (b : ℕ) (x : Activity) (l : Bool) → InPhase k (On x) l (opened x l (k.facts.decode b))
  opened_phase b Idle l = known_phase b l (k.facts.decode b) refl
  opened_phase b (Storing p) l = busy_phase (On (Storing p)) l (k.facts.decode b)
  opened_phase b (Recalling p) l = busy_phase (On (Recalling p)) l (k.facts.decode b)
  opened_phase b (Waking p) l = tt

  located_phase : (p : Power) (l : Bool) (i : Instruction) (a : ℕ) → a < k.size → (p ≡ On Idle) × (is_write i ≡ true → l ≡ true) → InPhase k p l (located k i a)
  located_phase p l Write a h (idle, enabled) =
      cond_both k.facts.direct _ _ (InPhase k p l) (λ _. (idle, enabled refl)) (λ d. (idle, enabled refl, d))
  located_phase p l SecureRead a h (idle, enabled) = (idle, h)
  located_phase p l Read a h (idle, enabled) = (idle, h)
  located_phase p l Enable a h (idle, enabled) = (idle, h)
  located_phase p l Disable a h (idle, enabled) = (idle, h)
  located_phase p l ReadStatus a h (idle, enabled) = (idle, h)
  located_phase p l WriteStatus a h (idle, enabled) = (idle, h)
  located_phase p l SecureWrite a h (idle, enabled) = (idle, h)
  located_phase p l Store a h (idle, enabled) = (idle, h)
  located_phase p l Recall a h (idle, enabled) = (idle, h)
  located_phase p l Nothing a h (idle, enabled) = (idle, h)

  -- a byte leads from phase to phase
  pub heard_phase : alive k ≡ true → (s : State) (x : Activity) (ph : Phase) (b : ℕ)
      → InPhase k (On x) s.latch ph → InPhase k (On x) s.latch (heard k s x ph b).phase
  heard_phase live s x opcode b h = opened_phase b x s.latch
  heard_phase live s x (turned_away r w) b h = tt
  heard_phase live s x (command i followed) b h = h
  heard_phase live s x reading_status b h = tt
  heard_phase live s x (writing_status n first) b h = h
  heard_phase live s x (address i bytes) b h =
      cond_both (ltb (length bytes + 1) k.facts.address_bytes) _ _ (InPhase k (On x) s.latch) (λ _. h)
      (λ _. located_phase (On x) s.latch i _ (mod-lt _ (omega (arith, alive_size k live))) h)
  heard_phase live s x (reading a) b h = (h.0, mod-lt (a + 1) (omega (arith, alive_size k live)))
  heard_phase live s x (reading_secure a n) b h = h
  heard_phase live s x (writing_paged page first held blocked any) b h =
      cond_both (k.facts.runs_on s.status_bits && fills_page first held) _ _ (λ (o : Heard). InPhase k (On x) s.latch o.phase) (λ _. h) (λ _. h)
  heard_phase live s x (writing_direct a blocked any) b h =
      cond_both (protected k s.status_bits a) _ _ (λ (o : Heard). InPhase k (On x) s.latch o.phase) (λ _. h) (λ _. h)
  heard_phase live s x (frame bytes) b h =
      cond_both (ltb (length bytes) (frame_length k)) _ _ (InPhase k (On x) s.latch) (λ _. h) (λ _. h.0)
  heard_phase live s x frame_too_long b h = h
