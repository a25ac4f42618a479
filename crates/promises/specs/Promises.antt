-- What every run of a part promises, at every moment.
use Rattle.std.specs.Prelude.{◌≡◌, ℕ, ◌^◌, ◌<◌, Bool, true, false, ◌⊎◌, ◌↔◌, List, [], ◌∷◌, ◌++◌, length, Some, Ok, Err, Result, slice_index}
use Rattle.refusal.specs.declared.Refusal.{Refusal}
use Rattle.refusal.specs.declared.Refusal.TheVariants.{WrongSum}
use Rattle.cells.specs.Images.{Images}
use Rattle.crc.specs.Sum.{bits, message_bits}
use Rattle.detect.specs.Damage.{Burst}
use Rattle.dialect.specs.Facts.{Lawful}
use Rattle.dialect.specs.declared.Instruction.TheVariants.{SecureWrite}
use Rattle.rules.specs.declared.Activity.TheVariants.{Idle, Waking}
use Rattle.rules.specs.declared.Power.TheVariants.{On}
use Rattle.rules.specs.declared.Call.{Call}
use Rattle.rules.specs.declared.Call.TheVariants.{Select, Byte, Release, Tick, Cut, PowerUp}
use Rattle.rules.specs.Kind.{Kind, alive, protected}
use Rattle.rules.specs.State.{unselected, Event, put, keep, recall, fade, cell}
use Rattle.rules.specs.Machine.{Moment}
use Rattle.rules.specs.History.{state_after, after, trail, calls_of, images_after, Run, Throughout}
use Rattle.rules.specs.Frame.{frame_length, frame_address, frame_data, frame_sum, is_right}
use Rattle.rules.specs.Trail.{PromisedByte, CurrentByte}

-- a put among events
abbrev pub Puts : ℕ → ℕ → List Event → Type 0
Puts a b [] = ⊥
Puts a b (put x y ∷ es) = ((x ≡ a) × (y ≡ b)) ⊎ Puts a b es
Puts a b (keep p ∷ es) = Puts a b es
Puts a b (recall p ∷ es) = Puts a b es
Puts a b (fade ∷ es) = Puts a b es

-- The latch at the last select that was done; clear if there was none.
abbrev pub latch_if_done : Result ℕ Refusal → Bool → Bool → Bool
latch_if_done (Ok n) now before = now
latch_if_done (Err r) now before = before

abbrev pub latch_at_select : Kind → List Call → Bool
latch_at_select k [] = false
latch_at_select k (Select ∷ calls) =
    latch_if_done (after k calls Select).answer (state_after k calls).latch (latch_at_select k calls)
latch_at_select k (Byte b held ∷ calls) = latch_at_select k calls
latch_at_select k (Release clocks ∷ calls) = latch_at_select k calls
latch_at_select k (Tick ∷ calls) = latch_at_select k calls
latch_at_select k (Cut charged ∷ calls) = latch_at_select k calls
latch_at_select k (PowerUp ∷ calls) = latch_at_select k calls

-- a tick that ends a waking
pub record EndsWaking (k : Kind) (calls : List Call) (c : Call) : Type 0 where
  pub page : ℕ
  pub is_tick : c ≡ Tick
  pub was_waking : (state_after k calls).power ≡ On (Waking page)
  pub is_idle : (after k calls c).state.power ≡ On Idle

-- What holds of the newest call and what came of it.
pub record CallPromises (k : Kind) (first : Images) (before : List Moment) (m : Moment) : Type 0 where
  -- The tick that ends a waking leaves each promised byte in the working image too.
  pub ended_waking_leaves_promised_bytes : EndsWaking k (calls_of before) m.call → (a : ℕ) → a < k.size
      → PromisedByte k.lasting first.kept a (trail k (calls_of (m ∷ before))) (slice_index m.images.working a)
  -- No put lies in the range that is protected at that moment.
  pub no_put_is_protected : (a b : ℕ) → Puts a b (after k (calls_of before) m.call).events
      → protected k (state_after k (calls_of before)).status_bits a ≡ false
  -- No put lies in a selection begun with the latch clear.
  pub no_put_where_latch_was_clear : (a b : ℕ) → Puts a b (after k (calls_of before) m.call).events
      → latch_at_select k (calls_of before) ≡ true
  -- Each data byte that a read or a secure read drives is the current byte of its address.
  pub driven_data_is_current : (a : ℕ) → (after k (calls_of before) m.call).drive ≡ cell a
      → (b : ℕ) × ((m.drove ≡ Some b) × CurrentByte k.lasting first.kept a (trail k (calls_of (m ∷ before))) b)

abbrev pub NewestCall : Kind → Images → List Moment → Type 0
NewestCall k first [] = Unit {0}
NewestCall k first (m ∷ before) = CallPromises k first before m

-- ---- secure frames

-- the calls of bytes sent unheld, onto the calls before
abbrev pub sent : List ℕ → List Call → List Call
sent [] calls = calls
sent (b ∷ bs) calls = sent bs (Byte b false ∷ calls)

-- A frame sent whole to an idle enabled part: in a selection begun for it, behind an opcode of secure write, its bytes
-- unheld, and released with no leftover clock.
pub record SentWhole (k : Kind) (opcode : ℕ) (bytes : List ℕ) (moments : List Moment) : Type 0 where
  pub meanwhile : List Moment
  pub earlier : List Moment
  pub split : moments ≡ meanwhile ++ earlier
  pub calls : calls_of meanwhile ≡ Release 0 ∷ sent bytes (Byte opcode false ∷ Select ∷ [])
  pub names : k.facts.decode opcode ≡ Some SecureWrite
  pub whole : length bytes ≡ frame_length k
  pub is_alive : alive k ≡ true
  pub is_idle : (state_after k (calls_of earlier)).power ≡ On Idle
  pub is_enabled : (state_after k (calls_of earlier)).latch ≡ true
  pub is_free : (state_after k (calls_of earlier)).selection ≡ unselected

abbrev pub newest_answer : List Moment → Result ℕ Refusal
newest_answer [] = Ok 0
newest_answer (m ∷ moments) = m.answer

-- Both images stay as they are at every moment of a list.
abbrev pub Unaltered : Images → List Moment → Type 0
Unaltered i [] = Unit {0}
Unaltered i (m ∷ moments) = (m.images ≡ i) × Unaltered i moments

-- The counting bits of a frame where N is 2 to the power e, in sending order: the e address bits that choose among N, the
-- data bits and the sum bits.
abbrev pub counting_bits : Kind → ℕ → List ℕ → List Bool
counting_bits k e bytes = bits e (frame_address k bytes) ++ (message_bits (frame_data k bytes) ++ bits 16 (frame_sum k bytes))

pub record FramePromises (k : Kind) (first : Images) (moments : List Moment) : Type 0 where
  -- Of the frames sent whole, those that lack the sum are answered 17, and no others.
  pub exactly_wrong_frames_get_17 : (opcode : ℕ) (bytes : List ℕ) → SentWhole k opcode bytes moments
      → (newest_answer moments ≡ Err WrongSum) ↔ (is_right k bytes ≡ false)
  -- A right frame, changed in at least one of 16 successive counting bits and in no other, is answered 17, and neither
  -- image alters meanwhile.
  pub damaged_frames_get_17 : (opcode : ℕ) (right received : List ℕ) (e : ℕ) → is_right k right ≡ true → length right ≡ frame_length k
      → k.size ≡ 2 ^ e → Burst 16 (counting_bits k e right) (counting_bits k e received)
      → (whole : SentWhole k opcode received moments)
      → (newest_answer moments ≡ Err WrongSum) × Unaltered (images_after first whole.earlier) whole.meanwhile

-- ---- the whole promise, at one moment of a run

pub record Promises (k : Kind) (first : Images) (moments : List Moment) : Type 0 where
  -- The kept image holds each address's promised byte.
  pub kept_image_holds_promised_bytes : (a : ℕ) → a < k.size
      → PromisedByte k.lasting first.kept a (trail k (calls_of moments)) (slice_index (images_after first moments).kept a)
  -- In an idle part the working image holds each address's current byte.
  pub idle_working_image_is_current : (state_after k (calls_of moments)).power ≡ On Idle → (a : ℕ) → a < k.size
      → CurrentByte k.lasting first.kept a (trail k (calls_of moments)) (slice_index (images_after first moments).working a)
  pub newest_call : NewestCall k first moments
  pub frames : FramePromises k first moments

-- The promises hold at every moment of every run, in every lawful dialect and at every size, dead ones too.
abbrev pub PromisesHold : Type 0
PromisesHold =
    (k : Kind) → Lawful k.facts → (first : Images) (moments : List Moment) → Run k first moments
    → Throughout (Promises k first) moments
